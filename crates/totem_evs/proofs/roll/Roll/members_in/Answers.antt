use Rattle.std.proofs.Common.{rules}
use Rattle.totem_names.specs.Sources.{Settles}
use Rattle.totem_names.proofs.InHand.{text_stands}
use Rattle.totem_evs.specs.RunGrammar.{members_at}
use Rattle.totem_evs.proofs.Common.{◌≡◌}
use Rattle.totem_evs.proofs.roll.Roll.members_in.Goals as goal

pub returns : goal.returns
returns c =
    let same : c.args.version ≡ c.args.self.now.version = search rules in
    let spelled : Settles (members_at c.args.version 32 0) c.args.self.now.text.items c.args.self.now.members = rw same c.args.self.now.spelled in
    let text = c.as_slice-text.ensures.value in
    rw c.in-Ok.ensures
    (text_stands _ c.args.bytes.now c.in_ok-rest.rest.now c.as_slice-text.result.now c.args.at _ c.in_ok-rest.ensures.lookup.0.2 c.if-not-begins.ensures.value (rw text spelled))
