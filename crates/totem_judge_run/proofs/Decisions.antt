-- Facts that hold or do not.
use Rattle.totem_judge_run.proofs.Common.{◌≡◌, ℕ, suc, ◌+◌, ◌<◌, ◌≤◌, ◌⊎◌, inl, inr, List, [], ◌∷◌, length, get_or, take, false, IsTrue, ◌↔◌, refl, ap, arith, All, Contains, All-nil, All-cons, All-head, All-tail, All-push, take_more, take_all, get_or_from_slice_get, slice_get-get_or, RingId, ConfId, IsRegular, IsTransitional, less_or_not}
use Rattle.std.proofs.lemmas.Bool.{cases_eq}
use Rattle.std.proofs.lemmas.Map.Made.{Contains-tail}

-- both facts hold, or not both
pub both_or_not : {P Q : Type 0} → P ⊎ (P → ⊥) → Q ⊎ (Q → ⊥) → (P × Q) ⊎ (P × Q → ⊥)
both_or_not h k = grind arith

-- a fact that holds exactly where another does
pub same_or_not : {P Q : Type 0} → P ⊎ (P → ⊥) → (P → Q) → (Q → P) → Q ⊎ (Q → ⊥)
same_or_not h to from = grind arith

pub below_or_not : (a b : ℕ) → (a < b) ⊎ (a < b → ⊥)
below_or_not a b = grind (arith, less_or_not)

-- two numbers of which neither is below the other
pub neither_below : (a b : ℕ) → (a < b → ⊥) → (b < a → ⊥) → a ≡ b
neither_below a b under over = grind (arith, less_or_not)

pub contains_or_not : (xs : List ℕ) (p : ℕ) → Contains xs p ⊎ (Contains xs p → ⊥)
contains_or_not [] p = inr (λ (k, lt, h). omega arith)
contains_or_not (x ∷ xs) p = elim (cases_eq x p) [
  | inl same ↦ inl (0, omega arith, same)
  | inr never ↦ same_or_not (contains_or_not xs p) (λ (k, lt, h). (suc k, omega arith, h)) (Contains-tail x xs p never)
]

pub all_or_not : (ms ns : List ℕ) → All (Contains ms) ns ⊎ (All (Contains ms) ns → ⊥)
all_or_not ms [] = inl (All-nil (Contains ms))
all_or_not ms (n ∷ ns) = same_or_not (both_or_not (contains_or_not ms n) (all_or_not ms ns)) (λ h. All-cons (Contains ms) n ns h.0 h.1) (λ h. (All-head (Contains ms) n ns h, All-tail (Contains ms) n ns h))

pub same_list_or_not : (xs ys : List ℕ) → (xs ≡ ys) ⊎ (xs ≡ ys → ⊥)
same_list_or_not [] [] = inl refl
same_list_or_not [] (y ∷ ys) = inr (λ e. cc)
same_list_or_not (x ∷ xs) [] = inr (λ e. cc)
same_list_or_not (x ∷ xs) (y ∷ ys) = same_or_not (both_or_not (cases_eq x y) (same_list_or_not xs ys)) (λ h. let a = h.0 in let b = h.1 in cc) (λ e. (cc, cc))

same_ring : (c d : RingId) → c.seq ≡ d.seq → c.rep ≡ d.rep → c ≡ d
same_ring c d seq rep = grind arith

pub same_ring_or_not : (c d : RingId) → (c ≡ d) ⊎ (c ≡ d → ⊥)
same_ring_or_not c d = same_or_not (both_or_not (cases_eq c.seq d.seq) (cases_eq c.rep d.rep)) (λ h. same_ring c d h.0 h.1) (λ e. (ap (λ (r : RingId). r.seq) e, ap (λ (r : RingId). r.rep) e))

pub regular_or_transitional : (x : ConfId) → IsRegular x ⊎ IsTransitional x
regular_or_transitional x = grind arith

-- loops over a list of processes
pub all_in_itself : (ms ns : List ℕ) → ms ≡ ns → All (Contains ms) ns
all_in_itself ms ns same = rw same (λ k d lt. (k, lt, get_or_from_slice_get ns k (get_or ns k d) (get_or ns k d) (slice_get-get_or ns k d lt)))

pub all_more : (ms ns : List ℕ) (i n : ℕ) → i < length ns → n ≡ get_or ns i n → Contains ms n → All (Contains ms) (take i ns) → All (Contains ms) (take (i + 1) ns)
all_more ms ns i n lt is here so_far = rw (take_more ns i n lt, ← is) (All-push (Contains ms) (take i ns) n so_far here)

pub all_whole : (ms ns : List ℕ) (i : ℕ) → length ns ≤ i → All (Contains ms) (take i ns) → All (Contains ms) ns
all_whole ms ns i end so_far = rw (take_all i ns end) at so_far

pub all_not : (ms ns : List ℕ) (i n : ℕ) → i < length ns → n ≡ get_or ns i n → (Contains ms n → ⊥) → IsTrue false ↔ All (Contains ms) ns
all_not ms ns i n lt is never = (λ t. absurd cc, λ all. absurd (never (rw is (all i n lt))))
