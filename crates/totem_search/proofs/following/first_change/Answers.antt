use Rattle.std.proofs.lemmas.Option.{slice_get_within}
use Rattle.totem_search.proofs.Loops.{none_more, denied, none_yet}
use Rattle.totem_search.proofs.following.first_change.Goals as goal

pub loop-at-preserved : goal.loop-at-preserved
loop-at-preserved c = none_more _ _ (denied _ c.if-changes_to_at.false c.changes_to_at.ensures) c.loop-at.invariant

pub returns-clause-none : goal.returns-clause-none
returns-clause-none c = record { never = none_yet _ _ c.loop-at.invariant _ c.loop-at-test.false (λ k (ms, at). slice_get_within _ k _ at) }
