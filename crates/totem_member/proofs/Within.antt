-- Subsets: what a subset has, and that it is no longer.
use Rattle.totem_member.proofs.Common.{◌≡◌, ℕ, ◌<◌, ◌≤◌, ◌==◌, ◌&&◌, ⊎_elim, Bool, true, false, List, [], ◌∷◌, length, filter, refl, sym, ◌∙◌, ap, subst, arith, cases_order, cases_Bool, eq-eqb, eqb-true, and_parts, and_from, or_cases, or_left, or_right, false≢true, has, is_within, Up}
use Rattle.std.proofs.Math.Bool.{and-false}

-- the first list is a subset of the second
pub record IsPart (ps qs : List ℕ) : Type 0 where
  pub had : (x : ℕ) → has ps x ≡ true → has qs x ≡ true

-- where the test says so, it is
pub part_of : (ps qs : List ℕ) → is_within ps qs ≡ true → IsPart ps qs
part_of ps qs e = record { had = go ps e }
  where
    go : (ps : List ℕ) → is_within ps qs ≡ true → (x : ℕ) → has ps x ≡ true → has qs x ≡ true
    go [] e x had = absurd (false≢true had)
    go (p ∷ ps) e x had =
        let both = and_parts (has qs p) (is_within ps qs) e in
        ⊎_elim (λ (here : (p == x) ≡ true). subst (λ y. has qs y ≡ true) (eqb-true p x here) both.0) (λ there. go ps both.1 x there) (or_cases (p == x) (has ps x) had)

-- and the converse
pub within_from : (ps qs : List ℕ) → IsPart ps qs → is_within ps qs ≡ true
within_from ps qs part = go ps part.had
  where
    go : (ps : List ℕ) → ((x : ℕ) → has ps x ≡ true → has qs x ≡ true) → is_within ps qs ≡ true
    go [] had = refl
    go (p ∷ ps) had =
        and_from (has qs p) (is_within ps qs) (had p (or_left (p == p) (has ps p) (eq-eqb p p refl)))
        (go ps (λ x there. had x (or_right (p == x) (has ps x) there)))

-- every element of a list above `last` is above `last`
pub above : (last : ℕ) (ps : List ℕ) (x : ℕ) → Up last ps → has ps x ≡ true → last < x
above last [] x up had = absurd (false≢true had)
above last (p ∷ ps) x up had =
    ⊎_elim (λ (here : (p == x) ≡ true). omega (arith, up.0, eqb-true p x here)) (λ there. omega (arith, up.0, above p ps x up.1 there)) (or_cases (p == x) (has ps x) had)

-- an element above the first is among the others
behind : (q : ℕ) (qs : List ℕ) (x : ℕ) → q < x → has (q ∷ qs) x ≡ true → has qs x ≡ true
behind q qs x lt had = ⊎_elim (λ (here : (q == x) ≡ true). absurd (omega (arith, lt, eqb-true q x here))) (λ there. there) (or_cases (q == x) (has qs x) had)

first_had : (p : ℕ) (ps : List ℕ) → has (p ∷ ps) p ≡ true
first_had p ps = or_left (p == p) (has ps p) (eq-eqb p p refl)

others_part : (p q : ℕ) (ps qs : List ℕ) → p ≡ q → Up p ps → IsPart (p ∷ ps) (q ∷ qs) → IsPart ps qs
others_part p q ps qs e up part =
    record { had = λ x there. behind q qs x (omega (arith, above p ps x up there, e)) (part.had x (or_right (p == x) (has ps x) there)) }

all_part : (p q : ℕ) (ps qs : List ℕ) → q < p → Up p ps → IsPart (p ∷ ps) (q ∷ qs) → IsPart (p ∷ ps) qs
all_part p q ps qs lt up part =
    record { had = λ x there. behind q qs x (above q (p ∷ ps) x (lt, up) there) (part.had x there) }

not_before : (p q : ℕ) (ps qs : List ℕ) → p < q → Up q qs → IsPart (p ∷ ps) (q ∷ qs) → ⊥
not_before p q ps qs lt others part = ⊎_elim
    (λ (here : (q == p) ≡ true). omega (arith, lt, eqb-true q p here))
    (λ there. omega (arith, lt, above q qs p others there))
    (or_cases (q == p) (has qs p) (part.had p (first_had p ps)))

-- an ascending list is no longer than one of which it is a subset
pub no_longer : (last least : ℕ) (ps qs : List ℕ) → Up last ps → Up least qs → IsPart ps qs → length ps ≤ length qs
no_longer last least [] qs up others part = omega arith
no_longer last least (p ∷ ps) [] up others part = absurd (false≢true (part.had p (first_had p ps)))
no_longer last least (p ∷ ps) (q ∷ qs) up others part = ⊎_elim
    (λ (e : p ≡ q). omega (arith, no_longer p q ps qs up.1 others.1 (others_part p q ps qs e up.1 part)))
    (λ other. ⊎_elim
    (λ (less : p < q). absurd (not_before p q ps qs less others.1 part))
    (λ (more : q < p). omega (arith, no_longer q q (p ∷ ps) qs (more, up.1) others.1 (all_part p q ps qs more up.1 part)))
    other)
    (cases_order p q)

-- what a filtered list has
pub has_filter : (test : ℕ → Bool) (ps : List ℕ) (x : ℕ) → has (filter test ps) x ≡ (has ps x && test x)
has_filter test [] x = refl
has_filter test (p ∷ ps) x = ⊎_elim
    (λ (e : test p ≡ true). rw (e, has_filter test ps x) (⊎_elim
    (λ (here : (p == x) ≡ true). rw (here, sym (ap test (eqb-true p x here)) ∙ e) refl)
    (λ (off : (p == x) ≡ false). rw off refl)
    (cases_Bool (p == x))))
    (λ (e : test p ≡ false). rw (e, has_filter test ps x) (⊎_elim
    (λ (here : (p == x) ≡ true). rw (here, sym (ap test (eqb-true p x here)) ∙ e) (and-false (has ps x)))
    (λ (off : (p == x) ≡ false). rw off refl)
    (cases_Bool (p == x))))
    (cases_Bool (test p))
