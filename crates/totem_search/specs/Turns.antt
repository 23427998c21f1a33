-- 2.4 in the form of a search: neighbours in their order, and after p's two changes those of another log
-- (docs/SPECIFICATIONS.md, "Faults").
use Rattle.std.specs.Prelude.{◌≡◌, ◌≢◌, ℕ, ◌<◌, List, [], ◌∷◌}
use Rattle.totem_names.specs.declared.ring.RingId.{RingId}
use Rattle.totem_names.specs.declared.conf.ConfId.{ConfId}
use Rattle.totem_names.specs.declared.conf.ConfId.TheVariants.{Regular, Transitional}
use Rattle.totem_names.specs.declared.place.Place.{Place}
use Rattle.totem_evs.specs.declared.entry.Entry.{Entry}
use Rattle.totem_evs.specs.declared.log.Log.{Log}
use Rattle.totem_evs.specs.Events.{log_of, IsTransitional}
use Rattle.totem_evs.specs.Changes.{ChangesNext}
use Rattle.totem_evs.specs.ChangeFaults.{BeginsTransitional, AreWrongNeighbours}
use Rattle.totem_evs.specs.Places.{At}

-- the entry at i is no change, or no change follows it
pub record HasNoSuccession (log : List Entry) (i : ℕ) : Type 0 where
  pub none : (j : ℕ) (x y : ConfId) (ms ns : List ℕ) → ChangesNext log i j x y ms ns → ⊥

-- the regular configuration of another ring than c
abbrev pub IsOfOtherRing : RingId → ConfId → Type 0
IsOfOtherRing c (Regular d) = c ≢ d
IsOfOtherRing c (Transitional least next) = ⊥

-- a log above p's comes to t from another ring than c
abbrev pub ComesFromElsewhere : List Log → ℕ → RingId → ConfId → ℕ → ℕ → ℕ → Type 0
ComesFromElsewhere run p c t q k l = (p < q) × (d : RingId) × (ks ls : List ℕ) × (c ≢ d) × ChangesNext (log_of run q) k l (Regular d) t ks ls

-- the two changes by which it does so
abbrev pub IsOtherOrigin : List Log → ℕ → RingId → ConfId → List Place → Type 0
IsOtherOrigin run p c t [] = ⊥
IsOtherOrigin run p c t (g ∷ []) = ⊥
IsOtherOrigin run p c t (g ∷ h ∷ []) = At g (λ q k. At h (λ s l. (q ≡ s) × ComesFromElsewhere run p c t q k l))
IsOtherOrigin run p c t (g ∷ h ∷ x ∷ rest) = ⊥

-- the rest of the list after p's changes at i and j
abbrev pub IsTurnRest : List Log → ℕ → ℕ → ℕ → List Place → Type 0
IsTurnRest run p i j [] = AreWrongNeighbours (log_of run p) i j
IsTurnRest run p i j (g ∷ rest) = (c : RingId) × (t : ConfId) × (ms ns : List ℕ) × IsTransitional t
    × ChangesNext (log_of run p) i j (Regular c) t ms ns × IsOtherOrigin run p c t (g ∷ rest)

-- the first change; two neighbouring changes; two changes of p and two of another log
abbrev pub IsTurnFault : List Log → List Place → Type 0
IsTurnFault run [] = ⊥
IsTurnFault run (e ∷ []) = At e (λ p i. BeginsTransitional (log_of run p) i)
IsTurnFault run (e ∷ f ∷ rest) = At e (λ p i. At f (λ q j. (p ≡ q) × IsTurnRest run p i j rest))
