use Rattle.totem_evs.proofs.Common.{All, take, ◌≢◌}
use Rattle.totem_evs.specs.declared.ending.Ending.TheVariants.{Quiet}
use Rattle.totem_evs.proofs.lives.first_unsaid.Given as goal

abbrev pub invariant-loop-at : goal.invariant-loop-at
invariant-loop-at l = All (λ log. log.ending ≢ Quiet) (take l.at l.logs)
