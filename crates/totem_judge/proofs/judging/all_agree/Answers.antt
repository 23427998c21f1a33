use Rattle.totem_judge.proofs.Common.{◌≡◌, slice_get, Some, subst, Observed, ShowsAgreement, read_at, AgreesAt}
use Rattle.totem_judge.proofs.Steps.{each_more}
use Rattle.totem_judge.proofs.judging.all_agree.Goals as goal

pub loop-one-preserved : goal.loop-one-preserved
loop-one-preserved c =
    let one = c.one-item.result in
    let at : slice_get c.args.list.now c.loop-one.one-index ≡ Some one = read_at c.args.list.now c.loop-one.one-index one c.loop-one-test.true c.one-item.is in
    let shows : ShowsAgreement one.traffic = c.if-not-is_agreed.ensures in
    each_more (AgreesAt c.args.list.now) c.loop-one.one-index (λ other here. let same : one ≡ other = cc in subst (λ (x : Observed). ShowsAgreement x.traffic) same shows) c.loop-one.invariant
