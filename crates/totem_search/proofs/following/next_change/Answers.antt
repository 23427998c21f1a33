use Rattle.totem_judge_run.proofs.Common.{arith, slice_get_within}
use Rattle.totem_search.proofs.Loops.{none_more, denied, none_yet}
use Rattle.totem_search.proofs.following.next_change.Goals as goal

pub returns-then-is_change-clause-some : goal.returns-then-is_change-clause-some
returns-then-is_change-clause-some c = record { change = c.is_change.ensures.0 c.if-is_change.true; later = omega (arith, c.loop-next.auto.next); none_between = λ k lt below change. c.loop-next.invariant.none k below (lt, change) }

pub loop-next-preserved : goal.loop-next-preserved
loop-next-preserved c = none_more _ _ (λ (lt, change). denied _ c.if-is_change.false c.is_change.ensures change) c.loop-next.invariant

pub returns-clause-none : goal.returns-clause-none
returns-clause-none c = record { none = λ k lt change. none_yet _ _ c.loop-next.invariant _ c.loop-next-test.false (λ k (over, (x, (ms, at))). slice_get_within _ k _ at) k (lt, change) }
