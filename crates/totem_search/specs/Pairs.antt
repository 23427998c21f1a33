-- Lists of one entry that is bad alone, or of two that are bad together (docs/SPECIFICATIONS.md, "Faults").
use Rattle.std.specs.Prelude.{◌≡◌, ℕ, List, [], ◌∷◌, slice_get, Some}
use Rattle.totem_names.specs.declared.place.Place.{Place}
use Rattle.totem_evs.specs.declared.entry.Entry.{Entry}
use Rattle.totem_evs.specs.declared.log.Log.{Log}
use Rattle.totem_evs.specs.Events.{log_of}
use Rattle.totem_evs.specs.Places.{At}
use Rattle.totem_search.specs.Search.{IsOneEvent}

-- a fact holds for the entry at an index of p's log
abbrev pub Has : List Log → (ℕ → ℕ → Entry → Type 0) → ℕ → ℕ → Type 0
Has run P p i = (x : Entry) × (slice_get (log_of run p) i ≡ Some x) × P p i x

-- the list is one entry that is bad alone, or two that are bad together
abbrev pub IsOneOrTwo : List Log → (ℕ → ℕ → Entry → Type 0) → (ℕ → ℕ → Entry → ℕ → ℕ → Entry → Type 0) → List Place → Type 0
IsOneOrTwo run Alone Pair [] = ⊥
IsOneOrTwo run Alone Pair (e ∷ []) = At e (Has run Alone)
IsOneOrTwo run Alone Pair (e ∷ f ∷ rest) = At e (Has run (λ p i x. IsOneEvent (Has run (Pair p i x)) (f ∷ rest)))
