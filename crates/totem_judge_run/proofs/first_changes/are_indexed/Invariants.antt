use Rattle.totem_judge_run.proofs.Common.{◌≡◌, ◌<◌, ℕ, slice_get, Some}
use Rattle.std.specs.BTreeMap as tree
use Rattle.totem_judge_run.specs.declared.changes_2_3.FirstChange.{FirstChange}
use Rattle.totem_judge_run.specs.Indexed.{conf_order}
use Rattle.totem_judge_run.proofs.first_changes.are_indexed.Given as goal

abbrev pub invariant-loop-at : goal.invariant-loop-at
invariant-loop-at l = (k : ℕ) → k < l.at → (change : FirstChange) → slice_get l.list k ≡ Some change → tree.get conf_order l.index change.conf.now ≡ Some k
