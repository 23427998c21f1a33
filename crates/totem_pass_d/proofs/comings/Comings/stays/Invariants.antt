use Rattle.totem_pass_d.proofs.Coming.{AreOfFirst}
use Rattle.totem_pass_d.proofs.comings.Comings.stays.Given as goal

abbrev pub invariant-loop-log : goal.invariant-loop-log
invariant-loop-log l = AreOfFirst l.run.logs l.fn.ring l.log-index l.list.items
