-- The least list of events for which something holds (docs/SPECIFICATIONS.md, "Order of faults").
use Rattle.std.specs.Prelude.{◌≡◌, ℕ, ◌+◌, ◌<◌, List, [], ◌∷◌, length, Option, Some, None}
use Rattle.totem_names.specs.declared.place.Place.{Place}
use Rattle.totem_evs.specs.declared.fault.Fault.{Fault}
use Rattle.totem_evs.specs.declared.spec.SpecNo.{SpecNo}
use Rattle.totem_evs.specs.declared.log.Log.{Log}
use Rattle.totem_evs.specs.Events.{log_of}
use Rattle.totem_evs.specs.Answers.{IsLeast}
use Rattle.totem_evs.specs.Places.{At}

-- the place of the entry at an index of p's log
abbrev pub place : ℕ → ℕ → Place
place p i = record { proc = p; at = i + 1 }

-- it holds for no list that begins at this entry
pub record NoneFrom (Holds : List Place → Type 0) (p i : ℕ) : Type 0 where
  pub none : (rest : List Place) → Holds (place p i ∷ rest) → ⊥

-- of the lists that begin at this entry, the one with this rest is first
pub record IsLeastFrom (Holds : List Place → Type 0) (p i : ℕ) (rest : List Place) : Type 0 where
  pub least : IsLeast (λ others. Holds (place p i ∷ others)) rest

-- it holds for no list that begins in p's log before i
pub record NoneInLog (Holds : List Place → Type 0) (p i : ℕ) : Type 0 where
  pub none : (k : ℕ) (rest : List Place) → k < i → Holds (place p k ∷ rest) → ⊥

-- of the lists that begin among the first n entries of p's log, this one is first
pub record IsLeastInLog (Holds : List Place → Type 0) (p n : ℕ) (places : List Place) : Type 0 where
  pub at : ℕ
  pub rest : List Place
  pub within : at < n
  pub is : places ≡ place p at ∷ rest
  pub least : IsLeastFrom Holds p at rest
  pub none_before : NoneInLog Holds p at

-- it holds for no list
pub record HoldsOfNone (Holds : List Place → Type 0) : Type 0 where
  pub none : (places : List Place) → Holds places → ⊥

-- the list begins at an entry of p's log
pub record Begins (run : List Log) (places : List Place) : Type 0 where
  pub proc : ℕ
  pub index : ℕ
  pub rest : List Place
  pub within : index < length (log_of run proc)
  pub is : places ≡ place proc index ∷ rest

-- each list for which it holds begins in this way
pub record EachBegins (run : List Log) (Holds : List Place → Type 0) : Type 0 where
  pub each : (places : List Place) → Holds places → Begins run places

-- the fault of a specification, if places are found for it
abbrev pub listed : SpecNo → Option (List Place) → List Fault
listed k None = []
listed k (Some places) = record { spec = k; places = places } ∷ []

-- one event, which has the property
abbrev pub IsOneEvent : (ℕ → ℕ → Type 0) → List Place → Type 0
IsOneEvent Bad (e ∷ []) = At e Bad
IsOneEvent Bad _ = ⊥

-- what has the property is an event of the run
pub record AreEvents (run : List Log) (Bad : ℕ → ℕ → Type 0) : Type 0 where
  pub each : (p i : ℕ) → Bad p i → i < length (log_of run p)
