use Rattle.totem_weave.proofs.Common.{ℕ, ◌<◌, IsThrough}
use Rattle.totem_weave.proofs.weaver.Weaver.first_left.Given as goal

abbrev pub invariant-loop-place : goal.invariant-loop-place
invariant-loop-place l = (k : ℕ) → k < l.place → IsThrough l.tracks l.self k
