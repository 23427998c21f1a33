use Rattle.totem_weave.proofs.Common.{ℕ, ◌+◌, ◌<◌, slice_index, ids_of}
use Rattle.totem_weave.proofs.membership.rise.Given as goal

-- each of these so far is below the next
abbrev pub invariant-loop-place : goal.invariant-loop-place
invariant-loop-place l = (k : ℕ) → k + 1 < l.place → slice_index (ids_of l.members) k < slice_index (ids_of l.members) (k + 1)
