-- All rules of one configuration.
use Rattle.std.proofs.Common.{arith}
use Rattle.totem_evs.specs.declared.spec.SpecNo.TheVariants as spec
use Rattle.totem_judge_traffic.specs.declared.traffic.Traffic.{Traffic}
use Rattle.totem_judge_traffic.specs.declared.agreed.Shown.{Shown}
use Rattle.totem_judge_traffic.specs.Clean.{Shows, ShowsAgreement, AreShown, IsAllShown}

pub agreed : (traffic : Traffic) → Shows spec.OwnDelivery traffic → Shows spec.Atomicity traffic → Shows spec.Causality traffic → Shows spec.Gap traffic
    → Shows spec.Safety traffic → Shows spec.Installed traffic → ShowsAgreement traffic
agreed traffic own atomicity causality gap safety installed = grind arith

-- where all is shown, the run agrees
pub shown_agreed : (traffic : Traffic) (shown : Shown) → AreShown traffic shown → IsAllShown shown → ShowsAgreement traffic
shown_agreed traffic shown are all = grind (arith, agreed)
