-- Ascending lists, from left to right: records by their processes, members by their identifiers.
use Rattle.totem_evs.proofs.Common.{AllPairs, ℕ, suc, ◌<◌, ◌≤◌, List, [], ◌∷◌, length, arith, AllByRecursion, All-from_recursion, recursion_from_All, but_last}
use Rattle.std.proofs.lemmas.List.Kept.{AllPairs-cons}

-- above `last`, ascending, and each of this kind
abbrev pub RecordsRise : {R : Type 0} → (R → ℕ) → (R → Type 0) → ℕ → List R → Type 0
RecordsRise proc Is last [] = Unit {0}
RecordsRise proc Is last (r ∷ rs) = (last < proc r) × Is r × RecordsRise proc Is (proc r) rs

pub record RecordsFrom {R : Type 0} (proc : R → ℕ) (Is : R → Type 0) (room last : ℕ) (rs : List R) : Type 0 where
  pub few : length rs < room
  pub rises : RecordsRise proc Is last rs

abbrev pub IsBelowBy : {R : Type 0} → (R → ℕ) → R → R → Type 0
IsBelowBy proc a b = proc a < proc b

rise_above : {R : Type 0} (proc : R → ℕ) (Is : R → Type 0) (last low : ℕ) (rs : List R) → low ≤ last → RecordsRise proc Is last rs → AllByRecursion (λ r. low < proc r) rs
rise_above proc Is last low [] le h = tt
rise_above proc Is last low (r ∷ rs) le h = (omega (arith, h.0), rise_above proc Is (proc r) low rs (omega (arith, h.0)) h.2)

pub rise_each : {R : Type 0} (proc : R → ℕ) (Is : R → Type 0) (last : ℕ) (rs : List R) → RecordsRise proc Is last rs → AllByRecursion Is rs
rise_each proc Is last [] h = tt
rise_each proc Is last (r ∷ rs) h = (h.1, rise_each proc Is (proc r) rs h.2)

pub rise_pairs : {R : Type 0} (proc : R → ℕ) (Is : R → Type 0) (last : ℕ) (rs : List R) → RecordsRise proc Is last rs → AllPairs (IsBelowBy proc) rs
rise_pairs proc Is last [] h = λ i j d lt within. absurd (omega arith)
rise_pairs proc Is last (r ∷ rs) h =
    AllPairs-cons (IsBelowBy proc) r rs (All-from_recursion (λ b. proc r < proc b) rs (rise_above proc Is (proc r) (proc r) rs (omega arith) h.2)) (rise_pairs proc Is (proc r) rs h.2)

pairs_tail : {X : Type 0} (R : X → X → Type 0) (x : X) (xs : List X) → AllPairs R (x ∷ xs) → AllPairs R xs
pairs_tail R x xs h i j d lt within = h (suc i) (suc j) d (omega arith) (omega arith)

rise_from : {R : Type 0} (proc : R → ℕ) (Is : R → Type 0) (last : ℕ) (rs : List R) → AllByRecursion (λ r. last < proc r) rs → AllByRecursion Is rs → AllPairs (IsBelowBy proc) rs → RecordsRise proc Is last rs
rise_from proc Is last [] above each pairs = tt
rise_from {R = R} proc Is last (r ∷ rs) above each pairs = (above.0, each.0, rise_from proc Is (proc r) rs (firsts r rs pairs) each.1 (pairs_tail (IsBelowBy proc) r rs pairs))
  where
    firsts : (r : R) (rs : List R) → AllPairs (IsBelowBy proc) (r ∷ rs) → AllByRecursion (λ b. proc r < proc b) rs
    firsts r rs pairs = recursion_from_All (λ b. proc r < proc b) rs (λ j d within. pairs 0 (suc j) d (omega arith) (omega arith))

all_positive : {R : Type 0} (proc : R → ℕ) (Is : R → Type 0) (rs : List R) → ((r : R) → Is r → 0 < proc r) → AllByRecursion Is rs → AllByRecursion (λ r. 0 < proc r) rs
all_positive proc Is [] above each = tt
all_positive proc Is (r ∷ rs) above each = (above r each.0, all_positive proc Is rs above each.1)

-- such records, where no process is 0
pub rise_from_none : {R : Type 0} (proc : R → ℕ) (Is : R → Type 0) (rs : List R) → ((r : R) → Is r → 0 < proc r) → AllByRecursion Is rs → AllPairs (IsBelowBy proc) rs → RecordsRise proc Is 0 rs
rise_from_none proc Is rs above each pairs = rise_from proc Is 0 rs (all_positive proc Is rs above each) each pairs

-- ---- records of which the last is of another kind and need not be above the one before

abbrev pub RiseLoosely : {R : Type 0} → (R → ℕ) → (R → Type 0) → (R → Type 0) → ℕ → List R → Type 0
RiseLoosely proc Is Last last [] = Unit {0}
RiseLoosely proc Is Last last (r ∷ []) = Last r
RiseLoosely proc Is Last last (r ∷ s ∷ rs) = (last < proc r) × Is r × RiseLoosely proc Is Last (proc r) (s ∷ rs)

pub record LooselyFrom {R : Type 0} (proc : R → ℕ) (Is Last : R → Type 0) (room last : ℕ) (rs : List R) : Type 0 where
  pub few : length rs < room
  pub rises : RiseLoosely proc Is Last last rs

pub rise_loosely : {R : Type 0} (proc : R → ℕ) (Is Last : R → Type 0) (last : ℕ) (r : R) (rs : List R) → last < proc r → Is r → Last r → RiseLoosely proc Is Last (proc r) rs → RiseLoosely proc Is Last last (r ∷ rs)
rise_loosely proc Is Last last r [] above is ends h = ends
rise_loosely proc Is Last last r (s ∷ rs) above is ends h = (above, is, h)

pub rises_loosely : {R : Type 0} (proc : R → ℕ) (Is Last : R → Type 0) (last : ℕ) (rs : List R) → ((r : R) → Is r → Last r) → RecordsRise proc Is last rs → RiseLoosely proc Is Last last rs
rises_loosely proc Is Last last [] weaker h = tt
rises_loosely proc Is Last last (r ∷ rs) weaker h = rise_loosely proc Is Last last r rs h.0 h.1 (weaker r h.1) (rises_loosely proc Is Last (proc r) rs weaker h.2)

loosely_above : {R : Type 0} (proc : R → ℕ) (Is Last : R → Type 0) (last low : ℕ) (rs : List R) → low ≤ last → RiseLoosely proc Is Last last rs → AllByRecursion (λ r. low < proc r) (but_last rs)
loosely_above proc Is Last last low [] le h = tt
loosely_above proc Is Last last low (r ∷ []) le h = tt
loosely_above proc Is Last last low (r ∷ s ∷ rs) le h = (omega (arith, h.0), loosely_above proc Is Last (proc r) low (s ∷ rs) (omega (arith, h.0)) h.2)

pub loosely_pairs : {R : Type 0} (proc : R → ℕ) (Is Last : R → Type 0) (last : ℕ) (rs : List R) → RiseLoosely proc Is Last last rs → AllPairs (IsBelowBy proc) (but_last rs)
loosely_pairs proc Is Last last [] h = λ i j d lt within. absurd (omega arith)
loosely_pairs proc Is Last last (r ∷ []) h = λ i j d lt within. absurd (omega arith)
loosely_pairs proc Is Last last (r ∷ s ∷ rs) h =
    AllPairs-cons (IsBelowBy proc) r (but_last (s ∷ rs)) (All-from_recursion (λ b. proc r < proc b) (but_last (s ∷ rs)) (loosely_above proc Is Last (proc r) (proc r) (s ∷ rs) (omega arith) h.2)) (loosely_pairs proc Is Last (proc r) (s ∷ rs) h.2)

pub loosely_before : {R : Type 0} (proc : R → ℕ) (Is Last : R → Type 0) (last : ℕ) (rs : List R) → RiseLoosely proc Is Last last rs → AllByRecursion Is (but_last rs)
loosely_before proc Is Last last [] h = tt
loosely_before proc Is Last last (r ∷ []) h = tt
loosely_before proc Is Last last (r ∷ s ∷ rs) h = (h.1, loosely_before proc Is Last (proc r) (s ∷ rs) h.2)

pub loosely_each : {R : Type 0} (proc : R → ℕ) (Is Last : R → Type 0) (last : ℕ) (rs : List R) → ((r : R) → Is r → Last r) → RiseLoosely proc Is Last last rs → AllByRecursion Last rs
loosely_each proc Is Last last [] weaker h = tt
loosely_each proc Is Last last (r ∷ []) weaker h = (h, tt)
loosely_each proc Is Last last (r ∷ s ∷ rs) weaker h = (weaker r h.1, loosely_each proc Is Last (proc r) (s ∷ rs) weaker h.2)
