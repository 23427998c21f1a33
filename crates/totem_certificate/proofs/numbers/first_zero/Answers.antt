use Rattle.totem_certificate.proofs.Common.{get_or, arith, get_or_default, IsNumber}
use Rattle.totem_names.proofs.Each.{each_more, each_whole}
use Rattle.totem_certificate.proofs.numbers.first_zero.Goals as goal

pub loop-at-preserved : goal.loop-at-preserved
loop-at-preserved c =
    each_more IsNumber _ _ (get_or c.args.list.now c.loop-at.at 0) c.loop-at-test.true (get_or_default _ _ _ _ c.loop-at-test.true)
    (record { positive = omega arith; small = omega (arith, c.type_inv.list c.loop-at.at) }) c.loop-at.invariant

pub returns-clause-positive : goal.returns-clause-positive
returns-clause-positive c = each_whole IsNumber _ _ c.loop-at-test.false c.loop-at.invariant
