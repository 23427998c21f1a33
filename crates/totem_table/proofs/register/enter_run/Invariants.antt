use Rattle.totem_table.proofs.Entering.{KnowsBefore}
use Rattle.totem_table.proofs.register.enter_run.Given as goal

abbrev pub invariant-loop-log : goal.invariant-loop-log
invariant-loop-log g l = record {
  entered : KnowsBefore (g.R.Register.knows l.register) l.log-items l.log-index;
  sound : g.R.Register.sound l.register l.run.logs;
}
