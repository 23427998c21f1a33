use Rattle.totem_judge_run.proofs.Common.{refl, arith, slice_get_read}
use Rattle.totem_search.proofs.Turning.{none_between_yet, none_between_more, none_before}
use Rattle.totem_search.proofs.succession_2_4.comes_later.Goals as goal

pub loop-back-init : goal.loop-back-init
loop-back-init c = none_between_yet _ _ _ (omega arith)

pub returns-in-Conf : goal.returns-in-Conf
returns-in-Conf c =
    let at = slice_get_read c.args.log.now _ _ c.index-log-at.result refl (omega (arith, c.loop-back-test.true)) c.index-log-at.is in
    (λ t. (_, omega (arith, c.loop-back-test.true), (_, (_, rw c.in-Conf.is at at))), λ h. refl)

pub loop-back-preserved : goal.loop-back-preserved
loop-back-preserved c =
    let at = slice_get_read c.args.log.now _ _ c.index-log-at.result refl (omega (arith, c.loop-back-test.true)) c.index-log-at.is in
    none_between_more _ _ _ _ _ _ (omega (arith, c.loop-back-test.true)) (omega (arith, c.loop-back-test.true)) at c.in_default.not-Conf c.loop-back.invariant

pub returns : goal.returns
returns c = none_before _ _ _ (omega (arith, c.loop-back-test.false)) c.loop-back.invariant
