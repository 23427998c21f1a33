-- The steps of a walk by the events to which they lead.
use Rattle.std.specs.Prelude.{◌≡◌, ℕ, List, slice_get, Some}
use Rattle.std.specs.BTreeMap.{BTreeMap, get}
use Rattle.std.specs.declared.cmp.Ordering.{Ordering}
use Rattle.totem_names.specs.declared.place.Place.{Place}
use Rattle.totem_evs.specs.ClosedLists.{Step}
use Rattle.totem_cert.specs.Progress.{IsVisitedAt}

-- the order of places
abbrev pub place_order : Place → Place → Ordering
place_order = (Rattle.totem_names.specs.contracts.place.PlaceOrd.TheImpl.cmp-value).it

-- the map has the number of the step for each event to which a step led
pub record IsNoted (seen : BTreeMap Place ℕ) (steps : List Step) : Type 0 where
  pub each : (i : ℕ) (v : Step) → slice_get steps i ≡ Some v → get place_order seen v.to ≡ Some i
  pub only : (e : Place) (i : ℕ) → get place_order seen e ≡ Some i → IsVisitedAt steps e i
