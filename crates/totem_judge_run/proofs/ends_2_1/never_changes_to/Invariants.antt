use Rattle.totem_judge_run.proofs.Common.{ℕ, ◌<◌, ChangesTo}
use Rattle.totem_judge_run.proofs.ends_2_1.never_changes_to.Given as goal

abbrev pub invariant-loop-entry : goal.invariant-loop-entry
invariant-loop-entry l = (k : ℕ) → k < l.entry-index → ChangesTo l.log k l.conf → ⊥
