use Rattle.totem_cert.proofs.Common.{◌≡◌, HoldsTo}
use Rattle.totem_cert.proofs.step.index_of_log.Given as goal

abbrev pub invariant-loop-k : goal.invariant-loop-k
invariant-loop-k l = HoldsTo (λ j log. log.proc ≡ l.proc → ⊥) l.log-items l.k
