use Rattle.std.proofs.lemmas.Grind.{common_steps}
use Rattle.std.proofs.Common.{sym, refl, arith}
use Rattle.totem_names.proofs.AtHand.{one_more, settles_at}
use Rattle.totem_names.proofs.Readers.{first_digit, first_fits, next_none, next_digit, next_other, digit_low}
use Rattle.totem_names.proofs.reading.number_within.Goals as goal

pub loop-at-init : goal.loop-at-init
loop-at-init c = grind (arith, first_fits, digit_low, one_more, first_digit)

pub returns-then-not-more-clause-number : goal.returns-then-not-more-clause-number
returns-then-not-more-clause-number c = settles_at _ _ _ _ _ _ c.loop-at.invariant.so_far (next_none _ _) c.loop-at-test.true refl (next_other _ _ _ (sym c.if-not-more.ensures))

pub loop-at-preserved : goal.loop-at-preserved
loop-at-preserved c = grind (arith, common_steps, one_more, next_digit)
