use Rattle.totem_weave.proofs.Common.{◌≡◌, ℕ, ◌<◌, slice_get, Some, Closed, process_of}
use Rattle.totem_weave.proofs.membership.is_second.Given as goal

-- none of the books so far is of the same process
abbrev pub invariant-loop-earlier : goal.invariant-loop-earlier
invariant-loop-earlier l = (j : ℕ) (b c : Closed) → j < l.earlier → slice_get l.books j ≡ Some b → slice_get l.books l.place ≡ Some c → ¬ (process_of b ≡ process_of c)
