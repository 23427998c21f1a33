use Rattle.totem_names.proofs.Rises.{rises_more, rises_whole, rises_falls}
use Rattle.totem_names.proofs.lists.first_fall.Goals as goal

pub returns-then-key-last-clause-found : goal.returns-then-key-last-clause-found
returns-then-key-last-clause-found g c =
    rises_falls _ _ _ _ _ _ c.loop-at-test.true c.index-list-at.is c.key-key.ensures.value c.key-key.ensures.positive c.if-key-last.true c.loop-at.invariant

pub loop-at-preserved : goal.loop-at-preserved
loop-at-preserved g c =
    rises_more _ _ _ _ _ _ c.loop-at-test.true c.index-list-at.is c.key-key.ensures.value c.key-key.ensures.positive c.if-key-last.false c.loop-at.invariant

pub returns-clause-rising : goal.returns-clause-rising
returns-clause-rising g c = rises_whole _ _ _ _ c.loop-at-test.false c.loop-at.invariant
