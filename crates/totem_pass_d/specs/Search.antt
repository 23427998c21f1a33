-- Lists of events that start in the stay of a process (docs/SPECIFICATIONS.md, "Faults").
use Rattle.std.specs.Prelude.{◌≡◌, ℕ, ◌<◌, List, [], ◌∷◌}
use Rattle.totem_names.specs.declared.place.Place.{Place}
use Rattle.totem_names.specs.declared.ring.RingId.{RingId}
use Rattle.totem_evs.specs.declared.log.Log.{Log}
use Rattle.totem_evs.specs.declared.spec.SpecNo.{SpecNo}
use Rattle.totem_evs.specs.RingFaults.{BreaksIn, MeetsIn}
use Rattle.totem_evs.specs.Places.{At}
use Rattle.totem_search.specs.Search.{place, IsLeastFrom}
use Rattle.totem_pass_d.specs.declared.stays.Stay.{Stay}
use Rattle.totem_pass_d.specs.Acts.{IsAmong}

-- the index is in the stay, after the change to the regular configuration
pub record IsInside (stay : Stay) (i : ℕ) : Type 0 where
  pub after : stay.from < i
  pub until : i < stay.end

-- the index is in p's stay
pub record StandsInside (stays : List Stay) (p i : ℕ) : Type 0 where
  pub stay : Stay
  pub among : IsAmong stays stay
  pub proc : stay.proc ≡ p
  pub inside : IsInside stay i

-- each event with the property is in a stay
pub record EachStandsInside (stays : List Stay) (Fact : ℕ → ℕ → Type 0) : Type 0 where
  pub each : (p i : ℕ) → Fact p i → StandsInside stays p i

-- the relation holds exactly for lists of one event with the property
pub record IsOfOne (Holds : List Place → Type 0) (Fact : ℕ → ℕ → Type 0) : Type 0 where
  pub empty : Holds [] → ⊥
  pub one : (e : Place) → Holds (e ∷ []) → At e Fact
  pub is : (e : Place) → At e Fact → Holds (e ∷ [])
  pub many : (e f : Place) (more : List Place) → Holds (e ∷ f ∷ more) → ⊥

-- what breaks the specification in c is one event with the property, each in one of the stays
pub record IsBrokenAlone (run : List Log) (c : RingId) (stays : List Stay) (k : SpecNo) (Fact : ℕ → ℕ → Type 0) : Type 0 where
  pub of : IsOfOne (BreaksIn run c k) Fact
  pub inside : EachStandsInside stays Fact
  pub met : ((p i : ℕ) → Fact p i → ⊥) → MeetsIn run c k

-- the list starts in one of the stays, at an index that is reached
pub record BeginsWithin (stays : List Stay) (Reaches : Stay → ℕ → Type 0) (places : List Place) : Type 0 where
  pub stay : Stay
  pub among : IsAmong stays stay
  pub index : ℕ
  pub reached : Reaches stay index
  pub rest : List Place
  pub is : places ≡ place stay.proc index ∷ rest

-- each list for which it holds starts so
pub record EachBeginsWithin (stays : List Stay) (Reaches : Stay → ℕ → Type 0) (Holds : List Place → Type 0) : Type 0 where
  pub each : (places : List Place) → Holds places → BeginsWithin stays Reaches places

-- it holds for no list that starts in the stay at a reached index before n
pub record NoneBelow (Reaches : Stay → ℕ → Type 0) (Holds : List Place → Type 0) (stay : Stay) (n : ℕ) : Type 0 where
  pub none : (i : ℕ) → i < n → (rest : List Place) → Reaches stay i → Holds (place stay.proc i ∷ rest) → ⊥

-- it holds for no list that starts in the stay at a reached index
pub record NoneWithin (Reaches : Stay → ℕ → Type 0) (Holds : List Place → Type 0) (stay : Stay) : Type 0 where
  pub none : (i : ℕ) (rest : List Place) → Reaches stay i → Holds (place stay.proc i ∷ rest) → ⊥

-- of the lists for which it holds that start in the stay at a reached index, this one is the least
pub record IsLeastWithin (Reaches : Stay → ℕ → Type 0) (Holds : List Place → Type 0) (stay : Stay) (places : List Place) : Type 0 where
  pub at : ℕ
  pub rest : List Place
  pub is : places ≡ place stay.proc at ∷ rest
  pub least : IsLeastFrom Holds stay.proc at rest
  pub none_before : NoneBelow Reaches Holds stay at
