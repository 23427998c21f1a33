use Rattle.totem_ring.proofs.Common.{◌≡◌, ℕ, ◌<◌, ◌≤◌, true, holds}
use Rattle.totem_ring.proofs.walks.whole_to.Given as goal

abbrev pub invariant-loop-number : goal.invariant-loop-number
invariant-loop-number l = record { begins : l.low ≤ l.number; whole : (k : ℕ) → l.low < k → k ≤ l.number → holds l.messages.entries k ≡ true }
