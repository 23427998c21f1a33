-- Two ascending lists of the same elements are equal.
use Rattle.totem_evs.proofs.Common.{◌≡◌, zero, suc, ◌⊎◌, inl, inr, List, [], ◌∷◌, refl, sym, ◌∙◌, subst, arith, AllPairs, Contains}

contains_nothing : {X : Type 0} (x : X) → Contains {X = X} [] x → ⊥
contains_nothing x (k, within, is) = omega arith

contains_cases : {X : Type 0} (a : X) (xs : List X) (x : X) → Contains (a ∷ xs) x → (a ≡ x) ⊎ Contains xs x
contains_cases a xs x (zero, within, is) = inl is
contains_cases a xs x (suc k, within, is) = inr (k, omega arith, is)

contains_head : {X : Type 0} (a : X) (xs : List X) → Contains (a ∷ xs) a
contains_head a xs = (0, omega arith, refl)

contains_more : {X : Type 0} (a : X) (xs : List X) (x : X) → Contains xs x → Contains (a ∷ xs) x
contains_more a xs x (k, within, is) = (suc k, omega arith, is)

pairs_tail : {X : Type 0} (R : X → X → Type 0) (a : X) (xs : List X) → AllPairs R (a ∷ xs) → AllPairs R xs
pairs_tail R a xs pairs = λ i j d less within. pairs (suc i) (suc j) d (omega arith) (omega arith)

-- no element is below itself, or above one that is above it
pub record IsOneWay {X : Type 0} (R : X → X → Type 0) : Type 0 where
  pub never : (a b : X) → R a b → R b a → ⊥

head_below : {X : Type 0} (R : X → X → Type 0) (a : X) (xs : List X) (x : X) → AllPairs R (a ∷ xs) → Contains xs x → R a x
head_below R a xs x pairs (k, within, is) = subst (R a) is (pairs 0 (suc k) x (omega arith) (omega arith))

same_heads : {X : Type 0} (R : X → X → Type 0) (a b : X) (xs ys : List X) → IsOneWay R → AllPairs R (a ∷ xs) → AllPairs R (b ∷ ys)
    → (b ≡ a) ⊎ Contains ys a → (a ≡ b) ⊎ Contains xs b → a ≡ b
same_heads R a b xs ys way rise_a rise_b (inl same) h = sym same
same_heads R a b xs ys way rise_a rise_b h (inl same) = same
same_heads R a b xs ys way rise_a rise_b (inr in_b) (inr in_a) = absurd (way.never a b (head_below R a xs b rise_a in_a) (head_below R b ys a rise_b in_b))

-- an element after the head of one list is after the same head of the other
behind : {X : Type 0} (R : X → X → Type 0) (a b : X) (xs ys : List X) → IsOneWay R → AllPairs R (a ∷ xs) → a ≡ b
    → ((x : X) → Contains (a ∷ xs) x → Contains (b ∷ ys) x) → (x : X) → Contains xs x → Contains ys x
behind R a b xs ys way rise same each x here = elim (contains_cases b ys x (each x (contains_more a xs x here))) [
  | inl is ↦ absurd (let low : R a x = head_below R a xs x rise here in let own : R a a = subst (R a) (sym (same ∙ is)) low in way.never a a own own)
  | inr there ↦ there
]

pub one_rising : {X : Type 0} (R : X → X → Type 0) (xs ys : List X) → IsOneWay R → AllPairs R xs → AllPairs R ys
    → ((x : X) → Contains xs x → Contains ys x) → ((x : X) → Contains ys x → Contains xs x) → xs ≡ ys
one_rising R [] [] way rise_a rise_b there back = refl
one_rising R [] (b ∷ ys) way rise_a rise_b there back = absurd (contains_nothing b (back b (contains_head b ys)))
one_rising R (a ∷ xs) [] way rise_a rise_b there back = absurd (contains_nothing a (there a (contains_head a xs)))
one_rising R (a ∷ xs) (b ∷ ys) way rise_a rise_b there back =
    let same : a ≡ b = same_heads R a b xs ys way rise_a rise_b (contains_cases b ys a (there a (contains_head a xs))) (contains_cases a xs b (back b (contains_head b ys))) in
    let rest : xs ≡ ys = one_rising R xs ys way (pairs_tail R a xs rise_a) (pairs_tail R b ys rise_b)
    (behind R a b xs ys way rise_a same there) (behind R b a ys xs way rise_b (sym same) back) in
    rw (same, rest) refl
