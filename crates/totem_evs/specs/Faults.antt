-- What it means that events break a specification: they meet its premise, and its conclusion fails for them
-- (docs/SPECIFICATIONS.md, "Faults").
use Rattle.std.specs.Prelude.{List}
use Rattle.totem_names.specs.declared.place.Place.{Place}
use Rattle.totem_evs.specs.declared.log.Log.{Log}
use Rattle.totem_evs.specs.declared.spec.SpecNo.{SpecNo}
use Rattle.totem_evs.specs.declared.spec.SpecNo.TheVariants as spec
use Rattle.totem_evs.specs.DeliveryFaults.{BreaksCycle, BreaksUnsent, BreaksTwice}
use Rattle.totem_evs.specs.ChangeFaults.{BreaksEnd, BreaksPlace, BreaksConfiguration, BreaksTurns}
use Rattle.totem_evs.specs.AgreementFaults.{BreaksOwnDelivery, BreaksAtomicity, BreaksCausality, BreaksOrder, BreaksGap, BreaksSafety, BreaksInstalled}

-- the places break the specification
abbrev pub Breaks : List Log → SpecNo → List Place → Type 0
Breaks run spec.Cycle places = BreaksCycle run places
Breaks run spec.Unsent places = BreaksUnsent run places
Breaks run spec.Twice places = BreaksTwice run places
Breaks run spec.End places = BreaksEnd run places
Breaks run spec.Misplaced places = BreaksPlace run places
Breaks run spec.Configuration places = BreaksConfiguration run places
Breaks run spec.Turns places = BreaksTurns run places
Breaks run spec.OwnDelivery places = BreaksOwnDelivery run places
Breaks run spec.Atomicity places = BreaksAtomicity run places
Breaks run spec.Causality places = BreaksCausality run places
Breaks run spec.Order places = BreaksOrder run places
Breaks run spec.Gap places = BreaksGap run places
Breaks run spec.Safety places = BreaksSafety run places
Breaks run spec.Installed places = BreaksInstalled run places
