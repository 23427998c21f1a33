use Rattle.std.proofs.Common.{◌*◌, drop}
use Rattle.totem_explain.specs.Sizes.{AddUp, IsWithin, all_entries}
use Rattle.totem_explain.proofs.survey.add_logs.Given as goal

abbrev pub invariant-loop-log : goal.invariant-loop-log
invariant-loop-log l = record {
  sum : AddUp l.initial.size (all_entries l.logs) l.size (all_entries (drop l.log-index l.logs));
  within : IsWithin l.size (1000000 * l.log-index);
}
