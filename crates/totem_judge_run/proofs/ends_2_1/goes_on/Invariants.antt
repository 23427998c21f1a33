use Rattle.totem_judge_run.proofs.Common.{ℕ, ◌<◌, ConfId, Fails}
use Rattle.totem_judge_run.proofs.ends_2_1.goes_on.Given as goal

abbrev pub invariant-loop-entry : goal.invariant-loop-entry
invariant-loop-entry l = (k : ℕ) → k < l.entry-index → (x : ConfId) → Fails l.log k x → ⊥
