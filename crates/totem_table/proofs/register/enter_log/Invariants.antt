use Rattle.totem_table.specs.Registers.{Keeps, StaysSound, KnowsLog}
use Rattle.totem_table.proofs.register.enter_log.Given as goal

abbrev pub invariant-loop-at : goal.invariant-loop-at
invariant-loop-at g l = record {
  entered : KnowsLog (g.R.Register.knows l.register) l.proc l.log l.at;
  kept : Keeps (g.R.Register.knows l.initial.register) (g.R.Register.knows l.register);
  sound : StaysSound (g.R.Register.sound l.initial.register) (g.R.Register.sound l.register) l.proc l.log;
}
