-- The findings of one job: for each specification of the last pass the least events that break it in one regular configuration,
-- or none if the run meets it there (docs/SPECIFICATIONS.md, "Passes").
use Rattle.std.specs.Prelude.{◌≡◌, ◌++◌, List, [], None, IsTrue}
use Rattle.totem_names.specs.declared.ring.RingId.{RingId}
use Rattle.totem_evs.specs.declared.log.Log.{Log}
use Rattle.totem_evs.specs.declared.spec.SpecNo.TheVariants as spec
use Rattle.totem_evs.specs.declared.fault.Fault.{Fault}
use Rattle.totem_evs.specs.RingFaults.{MeetsIn}
use Rattle.totem_evs.specs.Answers.{FindsIn, ListsRings}
use Rattle.totem_judge_traffic.specs.declared.agreed.Shown.{Shown}
use Rattle.totem_search.specs.Search.{listed}
use Rattle.totem_pass_d.specs.declared.findings.Findings.{Findings}
use Rattle.totem_pass_d.specs.declared.pass.Found.{Found}

pub record AreFindings (run : List Log) (c : RingId) (findings : Findings) : Type 0 where
  pub own : FindsIn run c spec.OwnDelivery findings.own
  pub atomicity : FindsIn run c spec.Atomicity findings.atomicity
  pub causality : FindsIn run c spec.Causality findings.causality
  pub gap : FindsIn run c spec.Gap findings.gap
  pub safety : FindsIn run c spec.Safety findings.safety
  pub installed : FindsIn run c spec.Installed findings.installed

-- the run meets in c what is shown
pub record AreMet (run : List Log) (c : RingId) (shown : Shown) : Type 0 where
  pub own : IsTrue shown.own → MeetsIn run c spec.OwnDelivery
  pub atomicity : IsTrue shown.atomicity → MeetsIn run c spec.Atomicity
  pub causality : IsTrue shown.causality → MeetsIn run c spec.Causality
  pub gap : IsTrue shown.gap → MeetsIn run c spec.Gap
  pub safety : IsTrue shown.safety → MeetsIn run c spec.Safety
  pub installed : IsTrue shown.installed → MeetsIn run c spec.Installed

-- nothing is broken
pub record AreNone (findings : Findings) : Type 0 where
  pub own : findings.own ≡ None
  pub atomicity : findings.atomicity ≡ None
  pub causality : findings.causality ≡ None
  pub gap : findings.gap ≡ None
  pub safety : findings.safety ≡ None
  pub installed : findings.installed ≡ None

-- nothing is found yet
pub record IsNothing (found : Found) : Type 0 where
  pub own : found.own.items ≡ []
  pub atomicity : found.atomicity.items ≡ []
  pub causality : found.causality.items ≡ []
  pub gap : found.gap.items ≡ []
  pub safety : found.safety.items ≡ []
  pub installed : found.installed.items ≡ []

-- the findings are appended to the list of each specification
pub record GrowsBy (old : Found) (findings : Findings) (new : Found) : Type 0 where
  pub own : new.own.items ≡ old.own.items ++ listed spec.OwnDelivery findings.own
  pub atomicity : new.atomicity.items ≡ old.atomicity.items ++ listed spec.Atomicity findings.atomicity
  pub causality : new.causality.items ≡ old.causality.items ++ listed spec.Causality findings.causality
  pub gap : new.gap.items ≡ old.gap.items ++ listed spec.Gap findings.gap
  pub safety : new.safety.items ≡ old.safety.items ++ listed spec.Safety findings.safety
  pub installed : new.installed.items ≡ old.installed.items ++ listed spec.Installed findings.installed

-- all lists, one after the other
abbrev pub all_found : Found → List Fault
all_found found = found.own.items ++ (found.atomicity.items ++ (found.causality.items ++ (found.gap.items ++ (found.safety.items ++ found.installed.items))))

-- the faults of each specification in these configurations
pub record AreFound (run : List Log) (cs : List RingId) (found : Found) : Type 0 where
  pub own : ListsRings run spec.OwnDelivery cs found.own.items
  pub atomicity : ListsRings run spec.Atomicity cs found.atomicity.items
  pub causality : ListsRings run spec.Causality cs found.causality.items
  pub gap : ListsRings run spec.Gap cs found.gap.items
  pub safety : ListsRings run spec.Safety cs found.safety.items
  pub installed : ListsRings run spec.Installed cs found.installed.items
