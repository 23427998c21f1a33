use Rattle.totem_judge_run.proofs.Common.{◌≡◌, AllWithin}
use Rattle.totem_evs.specs.declared.ending.Ending.TheVariants.{Quiet}
use Rattle.totem_judge_run.proofs.ends_2_1.has_quiet.Given as goal

abbrev pub invariant-loop-log : goal.invariant-loop-log
invariant-loop-log l = AllWithin (λ log. log.ending ≡ Quiet → ⊥) l.log-items 0 l.log-index
