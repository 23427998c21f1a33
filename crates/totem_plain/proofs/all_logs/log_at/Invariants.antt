use Rattle.totem_plain.proofs.Common.{◌≡◌, NoneBelow, HasLogAt}
use Rattle.totem_plain.proofs.all_logs.log_at.Given as goal

abbrev pub invariant-loop-log : goal.invariant-loop-log
invariant-loop-log l = NoneBelow (HasLogAt (λ p es. p ≡ l.proc) l.log-items) l.log-index
