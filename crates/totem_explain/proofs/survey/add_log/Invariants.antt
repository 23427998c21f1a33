use Rattle.std.proofs.Common.{◌+◌, drop}
use Rattle.totem_explain.specs.Sizes.{AddUp, IsWithin}
use Rattle.totem_explain.proofs.survey.add_log.Given as goal

abbrev pub invariant-loop-entry : goal.invariant-loop-entry
invariant-loop-entry l = record {
  sum : AddUp l.initial.size l.entries l.size (drop l.entry-index l.entries);
  within : IsWithin l.size (31000000 + l.entry-index);
}
