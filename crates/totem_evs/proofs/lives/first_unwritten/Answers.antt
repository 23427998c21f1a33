use Rattle.std.proofs.Common.{arith}
use Rattle.totem_evs.proofs.Common.{slice_get-get_or, HasFirstLives}
use Rattle.totem_names.proofs.Each.{each_more, each_whole}
use Rattle.totem_evs.proofs.lives.first_unwritten.Goals as goal

pub returns-then-not-has_first_lives-clause-some : goal.returns-then-not-has_first_lives-clause-some
returns-then-not-has_first_lives-clause-some c = grind (arith, slice_get-get_or)

pub loop-at-preserved : goal.loop-at-preserved
loop-at-preserved c = each_more HasFirstLives _ _ _ c.loop-at-test.true c.index-logs-at.is (c.has_first_lives.ensures.0 c.if-not-has_first_lives.false) c.loop-at.invariant

pub returns-clause-none : goal.returns-clause-none
returns-clause-none c = λ h. each_whole HasFirstLives _ _ c.loop-at-test.false c.loop-at.invariant
