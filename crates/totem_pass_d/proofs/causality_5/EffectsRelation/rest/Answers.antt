use Rattle.totem_pass_d.proofs.Common.{refl, started}
use Rattle.totem_pass_d.proofs.Facts.{facts_of}
use Rattle.totem_pass_d.proofs.CausalityFaults.{send_here, not_first_begin, effect_starts}
use Rattle.totem_pass_d.proofs.causality_5.EffectsRelation.rest.Goals as goal

pub is_hop-requires-clause-before : goal.is_hop-requires-clause-before
is_hop-requires-clause-before c =
    let of = facts_of c.args.self.now.stays.now c.requires.known in
    (send_here _ _ _ c.args.stay.now _ _ _ _ of c.requires.among c.requires.inside (rw c.in-Send.is at c.entry_in.ensures)).1

pub first_found-requires-clause-begins : goal.first_found-requires-clause-begins
first_found-requires-clause-begins c = not_first_begin _ _ _ _ _ (facts_of c.args.self.now.stays.now c.requires.known)

pub returns : goal.returns
returns c =
    let of = facts_of c.args.self.now.stays.now c.requires.known in
    let at = rw c.in-Send.is at c.entry_in.ensures in
    started (λ list. list.items) c.first_found.result _ _ _ _
    (effect_starts _ _ c.args.self.now.cause.now _ _ _ _ _ _ at (send_here _ _ _ c.args.stay.now _ _ _ _ of c.requires.among c.requires.inside at).0 (c.if-not-is_hop.ensures.0 refl))
    c.first_found.ensures
