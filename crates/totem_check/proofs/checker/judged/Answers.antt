use Rattle.totem_outcome.proofs.Checking.{broken_first}
use Rattle.totem_check.proofs.Judging.{accepted}
use Rattle.totem_check.proofs.checker.judged.Goals as goal

pub returns-in-Yes : goal.returns-in-Yes
returns-in-Yes c = accepted c.args.run.now.logs c.args.certificate.now.lines c.in-Yes.accepted c.requires (rw c.in-Yes.is at c.in_ok-accepted.ensures)

pub returns-in-No : goal.returns-in-No
returns-in-No c = broken_first c.args.run.now.logs c.args.certificate.now.lines c.in-No.faults.items c.remove.result c.requires (rw c.in-No.is at c.in_ok-accepted.ensures) c.remove.ensures.value
