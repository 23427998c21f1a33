use Rattle.totem_plain.proofs.Common.{◌≢◌, [], rules, broken_first}
use Rattle.totem_plain.proofs.Judging.{none_listed, answered, accepted}
use Rattle.totem_plain.proofs.plainly.judged.Goals as goal

pub returns-then-not-is_empty : goal.returns-then-not-is_empty
returns-then-not-is_empty c =
    let some : c.in_ok-faults.faults.items ≢ [] = search rules in
    broken_first c.args.run.now.logs c.args.certificate.now.lines c.in_ok-faults.faults.items c.remove.result c.requires (answered _ c.args.certificate.now.lines _ c.requires some c.in_ok-faults.ensures) c.remove.ensures.value

pub returns : goal.returns
returns c =
    accepted c.args.run.now.logs c.args.certificate.now.lines c.in_ok-faults.faults.items _ c.requires (none_listed c.in_ok-faults.faults c.if-not-is_empty.ensures) c.in_ok-faults.ensures (record { pending = c.in_ok-pending.ensures; waiting = c.in_ok-waiting.ensures })
