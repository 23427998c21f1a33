-- Steps and tests of a parser that did not fail.
use Rattle.totem_names.proofs.Common.{◌⊎◌, ◌≡◌, ℕ, List, Bool, true, false, cond, inl, inr, Result, Ok, Err, refl, ap, ◌>>=◌}

pub bind_ok : {A B E : Type 0} (r : Result A E) (f : A → Result B E) (y : B) → (r >>= f) ≡ Ok y → (x : A) × (r ≡ Ok x) × (f x ≡ Ok y)
bind_ok (Ok x) f y e = (x, refl, e)
bind_ok (Err d) f y e = absurd cc

-- the same for a value and what is left, for any conclusion
pub after : {A B E P : Type 0} (r : Result (A × List ℕ) E) (f : A × List ℕ → Result B E) (y : B) → (r >>= f) ≡ Ok y → ((x : A) (rest : List ℕ) → r ≡ Ok (x, rest) → f (x, rest) ≡ Ok y → P) → P
after (Ok x) f y e k = k x.0 x.1 refl e
after (Err d) f y e k = absurd cc

-- one of two branches was taken
pub taken : {B E : Type 0} (t : Bool) (p q r : Result B E) → cond t p q ≡ r → ((t ≡ true) × (p ≡ r)) ⊎ ((t ≡ false) × (q ≡ r))
taken true p q r e = inl (refl, e)
taken false p q r e = inr (refl, e)

-- the first branch gave a value, since the second is a fault
pub guard_then : {B E : Type 0} (t : Bool) (p : Result B E) (f : E) (y : B) → cond t p (Err f) ≡ Ok y → (t ≡ true) × (p ≡ Ok y)
guard_then true p f y e = (refl, e)
guard_then false p f y e = absurd cc

pub guard_else : {B E : Type 0} (t : Bool) (p : Result B E) (f : E) (y : B) → cond t (Err f) p ≡ Ok y → (t ≡ false) × (p ≡ Ok y)
guard_else true p f y e = absurd cc
guard_else false p f y e = (refl, e)

-- a value and what is left are those
pub parsed_is : {A E : Type 0} (x y : A) (xs ys : List ℕ) → ◌≡◌ {A = Result (A × List ℕ) E} (Ok (x, xs)) (Ok (y, ys)) → (x ≡ y) × (xs ≡ ys)
parsed_is {A = A} x y xs ys e =
    let pair : ◌≡◌ {A = A × List ℕ} (x, xs) (y, ys) = cc in
    (ap (λ (p : A × List ℕ). p.0) pair, ap (λ (p : A × List ℕ). p.1) pair)
