-- Ascending numbers, and ascending identifiers of processes, by their places.
use Rattle.totem_weave.proofs.Common.{◌≡◌, ℕ, ◌<◌, ◌≤◌, List, length, get_or, slice_get, Some, refl, ◌∙◌, arith, IsStrictlyIncreasing, slice_get_within, slice_get_read, get_or_from_slice_get, slice_get-map, id_of, ids_of}
use Rattle.std.proofs.lemmas.List.Kept.{AllPairs-from_increasing}

-- the one in front is the lesser
pub rises : (ns : List ℕ) (j k m n : ℕ) → IsStrictlyIncreasing ns → slice_get ns j ≡ Some m → slice_get ns k ≡ Some n → j < k → m < n
rises ns j k m n rising at_j at_k lt =
    grind (arith, AllPairs-from_increasing ns rising j k 0 lt, slice_get_within ns k n at_k, get_or_from_slice_get ns j m 0 at_j, get_or_from_slice_get ns k n 0 at_k)

pub id_at : (members : List ℕ) (k p : ℕ) → slice_get members k ≡ Some p → slice_get (ids_of members) k ≡ Some (id_of p)
id_at members k p at = slice_get-map id_of members k ∙ rw at refl

-- of ascending identifiers a later one is neither less than an earlier one nor equal to it
pub do_not_rise : (members : List ℕ) (j k p q : ℕ) → j < k → k < length members → p ≡ get_or members j p → q ≡ get_or members k q → id_of q ≤ id_of p
    → IsStrictlyIncreasing (ids_of members) → ⊥
do_not_rise members j k p q lt within at_p at_q falls rising =
    let at_j : slice_get members j ≡ Some p = slice_get_read members (length members) j p refl (omega arith) at_p in
    let at_k : slice_get members k ≡ Some q = slice_get_read members (length members) k q refl within at_q in
    let less = rises (ids_of members) j k (id_of p) (id_of q) rising (id_at members j p at_j) (id_at members k q at_k) lt in
    omega (arith, less, falls)
