-- Lists of which one is a prefix of the other.
use Rattle.std.proofs.Common.{arith}
use Rattle.std.proofs.lemmas.Option.{slice_get_within}
use Rattle.totem_ring.proofs.Common.{◌≡◌, ℕ, zero, suc, ◌⊎◌, inl, inr, List, [], ◌∷◌, ◌++◌, length, slice_get, Some, refl, sym, ◌∙◌, ap, append_assoc, length-append, map-append, filter-append, Message, IsPrefixOf, bodies_of}

pub slice_get-append : {X : Type 0} (xs ys : List X) (k : ℕ) (x : X) → slice_get xs k ≡ Some x → slice_get (xs ++ ys) k ≡ Some x
slice_get-append [] ys k x h = absurd cc
slice_get-append (y ∷ xs) ys zero x h = h
slice_get-append (y ∷ xs) ys (suc k) x h = slice_get-append xs ys k x h

pub slice_get_mid : {X : Type 0} (xs : List X) (y : X) (ys : List X) → slice_get (xs ++ y ∷ ys) (length xs) ≡ Some y
slice_get_mid [] y ys = refl
slice_get_mid (x ∷ xs) y ys = slice_get_mid xs y ys

-- of two prefixes of a list one is a prefix of the other
pub one_begins : {X : Type 0} (xs ys zs : List X) → IsPrefixOf xs zs → IsPrefixOf ys zs → IsPrefixOf xs ys ⊎ IsPrefixOf ys xs
one_begins [] ys zs p q = inl (ys, refl)
one_begins (x ∷ xs) [] zs p q = inr (x ∷ xs, refl)
one_begins (x ∷ xs) (y ∷ ys) zs (r, e) (t, f) =
    let both : x ∷ (xs ++ r) ≡ y ∷ (ys ++ t) = e ∙ sym f in
    let heads : x ≡ y = cc in
    let tails : xs ++ r ≡ ys ++ t = cc in
    elim (one_begins xs ys (ys ++ t) (r, tails) (t, refl)) [
      | inl (rest, h) ↦ inl (rest, (let joined : x ∷ (xs ++ rest) ≡ y ∷ ys = cc in joined))
      | inr (rest, h) ↦ inr (rest, (let joined : y ∷ (ys ++ rest) ≡ x ∷ xs = cc in joined))
    ]

-- a prefix of a list is a prefix of a longer one
pub begins_longer : {X : Type 0} (xs ys more : List X) → IsPrefixOf xs ys → IsPrefixOf xs (ys ++ more)
begins_longer xs ys more (rest, e) = (rest ++ more, sym (append_assoc xs rest more) ∙ ap (λ zs. zs ++ more) e)

-- a longer prefix has the element after the prefix
pub goes_on : {X : Type 0} (xs zs : List X) (x : X) → IsPrefixOf xs zs → slice_get zs (length xs) ≡ Some x → IsPrefixOf (xs ++ x ∷ []) zs
goes_on xs zs x ([], e) h = absurd (omega (arith, slice_get_within zs (length xs) x h, ap length e, length-append xs []))
goes_on xs zs x (r ∷ rest, e) h =
    let first : slice_get zs (length xs) ≡ Some r = rw (← e) (slice_get_mid xs r rest) in
    let same : x ≡ r = cc in
    (rest, rw same (append_assoc xs (r ∷ []) rest ∙ e))

pub bodies_of-append : (p : ℕ) (xs ys : List Message) → bodies_of p (xs ++ ys) ≡ bodies_of p xs ++ bodies_of p ys
bodies_of-append p xs ys = grind (arith, filter-append, map-append)

-- what a process sends in a prefix is a prefix of what it sends in the whole
pub bodies_begin : (p : ℕ) (xs zs : List Message) → IsPrefixOf xs zs → IsPrefixOf (bodies_of p xs) (bodies_of p zs)
bodies_begin p xs zs (rest, e) = (bodies_of p rest, sym (bodies_of-append p xs rest) ∙ ap (bodies_of p) e)
