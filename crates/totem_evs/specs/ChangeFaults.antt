-- What it means that events break specification 2 (docs/SPECIFICATIONS.md, "Faults").
use Rattle.std.specs.Prelude.{◌≡◌, ◌≢◌, ◌⊎◌, ℕ, ◌<◌, List, [], ◌∷◌, All, Contains, length}
use Rattle.totem_names.specs.declared.ring.RingId.{RingId}
use Rattle.totem_names.specs.declared.conf.ConfId.{ConfId}
use Rattle.totem_names.specs.declared.conf.ConfId.TheVariants.{Regular, Transitional}
use Rattle.totem_names.specs.declared.place.Place.{Place}
use Rattle.totem_evs.specs.declared.entry.Entry.{Entry}
use Rattle.totem_evs.specs.declared.log.Log.{Log}
use Rattle.totem_evs.specs.Events.{ChangesWith, ChangesTo, IsChange, Fails, IsRegular, IsTransitional, IsQuiet, log_of}
use Rattle.totem_evs.specs.Following.{IsLastChange}
use Rattle.totem_evs.specs.Changes.{Names, StandsIn, ChangesNext, SharesEnd}
use Rattle.totem_evs.specs.Places.{At}

-- p's log is quiet, its last change is this one, and a member of its configuration neither ends there nor may still arrive
abbrev pub EndsAlone : List Log → ℕ → ℕ → Type 0
EndsAlone run p i = (x : ConfId) × (ms : List ℕ) × (q : ℕ) × IsQuiet run p × IsLastChange (log_of run p) i x ms × Contains ms q × (SharesEnd run x q → ⊥)

-- 2.1: p's last change
abbrev pub BreaksEnd : List Log → List Place → Type 0
BreaksEnd run (e ∷ []) = At e (EndsAlone run)
BreaksEnd run _ = ⊥

-- the entry begins the log and is no change, names a configuration that it is not in, or follows a failure
abbrev pub IsMisplaced : List Entry → ℕ → Type 0
IsMisplaced log i =
    (i < length log)
    × (((i ≡ 0) × (IsChange log i → ⊥))
    ⊎ ((x : ConfId) × Names log i x × (StandsIn log i x → ⊥))
    ⊎ ((k : ℕ) × (x : ConfId) × (k < i) × Fails log k x))

-- 2.2: the entry
abbrev pub BreaksPlace : List Log → List Place → Type 0
BreaksPlace run (e ∷ []) = At e (λ p i. IsMisplaced (log_of run p) i)
BreaksPlace run _ = ⊥

-- p's entry i changes to a configuration of which p is not a member
abbrev pub IsForeign : List Log → ℕ → ℕ → Type 0
IsForeign run p i = (x : ConfId) × (ms : List ℕ) × ChangesWith (log_of run p) i x ms × (Contains ms p → ⊥)

-- two changes to one configuration, in one log or with different members
abbrev pub AreTwoConfigurations : List Log → ℕ → ℕ → ℕ → ℕ → Type 0
AreTwoConfigurations run p i q j = (x : ConfId) × (ms ns : List ℕ)
    × ChangesWith (log_of run p) i x ms × ChangesWith (log_of run q) j x ns × (((p ≡ q) × (i ≢ j)) ⊎ (ms ≢ ns))

-- 2.3: the change; both changes
abbrev pub BreaksConfiguration : List Log → List Place → Type 0
BreaksConfiguration run (e ∷ []) = At e (IsForeign run)
BreaksConfiguration run (e ∷ f ∷ []) = At e (λ p i. At f (λ q j. AreTwoConfigurations run p i q j))
BreaksConfiguration run _ = ⊥

-- the log's first change is transitional
abbrev pub BeginsTransitional : List Entry → ℕ → Type 0
BeginsTransitional log i = (x : ConfId) × ChangesTo log i x × IsTransitional x × ((k : ℕ) → k < i → IsChange log k → ⊥)

-- one change follows another as it may not: both are regular, both are transitional, a member of the transitional one is
-- not a member of the regular one next to it, or another ring follows than the transitional one names
abbrev pub AreWrongNeighbours : List Entry → ℕ → ℕ → Type 0
AreWrongNeighbours log i j = (x y : ConfId) × (ms ns : List ℕ) × ChangesNext log i j x y ms ns
    × ((IsRegular x × IsRegular y) ⊎ (IsTransitional x × IsTransitional y)
    ⊎ (IsRegular x × IsTransitional y × (All (Contains ms) ns → ⊥)) ⊎ (IsTransitional x × IsRegular y × (All (Contains ns) ms → ⊥))
    ⊎ ((next c : RingId) × (least : ℕ) × (x ≡ Transitional least next) × (y ≡ Regular c) × (c ≢ next)))

-- p and q come to one transitional configuration from different regular ones
abbrev pub HaveTwoOrigins : List Log → ℕ → ℕ → ℕ → ℕ → ℕ → ℕ → Type 0
HaveTwoOrigins run p i j q k l = (p < q) × (c d : RingId) × (t : ConfId) × (ms ns ks ls : List ℕ) × IsTransitional t × (c ≢ d)
    × ChangesNext (log_of run p) i j (Regular c) t ms ns × ChangesNext (log_of run q) k l (Regular d) t ks ls

-- 2.4: the first change; two neighbouring changes; two changes of p and two of q
abbrev pub BreaksTurns : List Log → List Place → Type 0
BreaksTurns run (e ∷ []) = At e (λ p i. BeginsTransitional (log_of run p) i)
BreaksTurns run (e ∷ f ∷ []) = At e (λ p i. At f (λ q j. (p ≡ q) × (AreWrongNeighbours (log_of run p) i j ⊎ AreWrongNeighbours (log_of run p) j i)))
BreaksTurns run (e ∷ f ∷ g ∷ h ∷ []) = At e (λ p i. At f (λ r j. At g (λ q k. At h (λ s l. (p ≡ r) × (q ≡ s) × HaveTwoOrigins run p i j q k l))))
BreaksTurns run _ = ⊥
