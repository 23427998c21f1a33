use Rattle.totem_table.proofs.Entering.{KnowsBefore}
use Rattle.totem_table.proofs.change_register.enter_changes.Given as goal

abbrev pub invariant-loop-k : goal.invariant-loop-k
invariant-loop-k g l = record {
  entered : KnowsBefore (g.R.ChangeRegister.knows l.register) l.run.logs l.k;
  sound : g.R.ChangeRegister.sound l.register l.run.logs;
}
