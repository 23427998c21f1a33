-- The steps of a walk, noted by the events to which they led.
use Rattle.totem_cert.proofs.Common.{◌≡◌, ℕ, ◌<◌, ◌⊎◌, inl, inr, List, [], ◌∷◌, ◌++◌, length, slice_get, Some, None, false, sym, ◌∙◌, arith, common_steps, Equal, slice_get_within, Place, Step, before_push, stands_last, IsVisitedAt, IsNotVisited}
use Rattle.std.specs.Ordering.{is_eq}
use Rattle.std.specs.BTreeMap.{BTreeMap, get, Updates}
use Rattle.totem_names.proofs.Exact.{equal_at, apart_or_at}
use Rattle.totem_cert.specs.Visited.{place_order, IsNoted}
use Rattle.totem_cert.proofs.Lists.{push_other}

same_place : (e f : Place) → place_order e f ≡ Equal → e ≡ f
same_place e f h = grind (arith, common_steps)

-- the two places are equal, or the order them apart
apart_or_same : (e f : Place) → (e ≡ f) ⊎ (is_eq (place_order e f) ≡ false)
apart_or_same e f = elim (apart_or_at place_order e f) [ inl h ↦ inl (same_place e f (equal_at (place_order e f) h)) | inr h ↦ inr h ]

pub not_visited : (seen : BTreeMap Place ℕ) (steps : List Step) (e : Place) → IsNoted seen steps → None ≡ get place_order seen e → IsNotVisited steps e (length steps)
not_visited seen steps e noted none = record { none = λ j v lt at same. (let h = noted.each j v at in let k : get place_order seen e ≡ Some j = rw same at h in cc) }

pub noted_more : (seen new : BTreeMap Place ℕ) (steps : List Step) (next : Step) → IsNoted seen steps → IsNotVisited steps next.to (length steps) → Updates place_order seen new next.to (Some (length steps)) → IsNoted new (steps ++ next ∷ [])
noted_more seen new steps next noted fresh updates = record {
  each = λ i v at. elim (before_push steps next i v at) [
    | inl h ↦ kept i v (slice_get_within steps i v h) h (apart_or_same next.to v.to)
    | inr (e, same) ↦ rw (e, ← same) updates.1
  ];
  only = λ e i at. found e i at (apart_or_same next.to e);
}
  where
    kept : (i : ℕ) (v : Step) → i < length steps → slice_get steps i ≡ Some v → (next.to ≡ v.to) ⊎ (is_eq (place_order next.to v.to) ≡ false) → get place_order new v.to ≡ Some i
    kept i v lt at same = grind arith

    found : (e : Place) (i : ℕ) → get place_order new e ≡ Some i → (next.to ≡ e) ⊎ (is_eq (place_order next.to e) ≡ false) → IsVisitedAt (steps ++ next ∷ []) e i
    found e i at (inl same) =
        let there : get place_order new e ≡ Some (length steps) = rw same at updates.1 in
        let is : i ≡ length steps = cc in
        record { step = next; at = rw is (stands_last steps next); same = same }
    found e i at (inr apart) =
        let h = noted.only e i (sym (updates.2 e apart) ∙ at) in
        record { step = h.step; at = push_other steps next i (λ e. (let lt = slice_get_within steps i h.step h.at in omega (arith, e))) ∙ h.at; same = h.same }
