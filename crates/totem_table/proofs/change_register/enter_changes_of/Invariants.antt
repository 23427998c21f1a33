use Rattle.totem_table.specs.Registers.{Keeps, StaysSound}
use Rattle.totem_table.proofs.Listing.{KnowsListed}
use Rattle.totem_table.proofs.change_register.enter_changes_of.Given as goal

abbrev pub invariant-loop-number : goal.invariant-loop-number
invariant-loop-number g l = record {
  entered : KnowsListed (g.R.ChangeRegister.knows l.register) l.proc l.log l.changes l.number;
  kept : Keeps (g.R.ChangeRegister.knows l.initial.register) (g.R.ChangeRegister.knows l.register);
  sound : StaysSound (g.R.ChangeRegister.sound l.initial.register) (g.R.ChangeRegister.sound l.register) l.proc l.log;
}
