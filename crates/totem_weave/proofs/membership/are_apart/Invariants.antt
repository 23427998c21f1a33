use Rattle.totem_weave.proofs.Common.{ℕ, ◌<◌, process_of}
use Rattle.totem_weave.specs.Distinct.{IsFirstBy}
use Rattle.totem_weave.proofs.membership.are_apart.Given as goal

abbrev pub invariant-loop-place : goal.invariant-loop-place
invariant-loop-place l = (k : ℕ) → k < l.place → IsFirstBy process_of l.books k
