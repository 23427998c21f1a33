-- As many receipts as calls, at places that no two share, cover the calls.
use Rattle.totem_books.proofs.Common.{◌≡◌, ◌<◌, ◌≤◌, ◌+◌, ◌-◌, ◌==◌, ◌++◌, ℕ, zero, suc, Bool, true, false, cond, List, [], ◌∷◌, length, take, drop, append-nil, refl, sym, ap, ◌∙◌, arith, All, eqb-true, eqb-false, sum_by-cons, slice_get_within, Called, Receipt, SeatRecord, FitRising, count_at, count_in, receipts_in, Agree, Covers}
use Rattle.std.proofs.Math.Seq.{take-length, drop-length}

-- the sum over the numbers below n
abbrev below : ℕ → (ℕ → ℕ) → ℕ
below zero f = 0
below (suc n) f = below n f + f n

below_none : (n : ℕ) → below n (λ k. 0) ≡ 0
below_none zero = refl
below_none (suc n) = omega (arith, below_none n)

below_both : (n : ℕ) (f g h : ℕ → ℕ) → ((k : ℕ) → f k ≡ g k + h k) → below n f ≡ below n g + below n h
below_both zero f g h e = refl
below_both (suc n) f g h e = omega (arith, below_both n f g h e, e n)

-- one place among them
place_above : (n p : ℕ) → n < p → below n (λ k. cond (p == (k + 1)) 1 0) ≡ 0
place_above zero p h = refl
place_above (suc n) p h = let none = not_here (p == (n + 1)) refl in omega (arith, place_above n p (omega (arith, h)), none)
  where
    not_here : (b : Bool) → p == (n + 1) ≡ b → cond {A = ℕ} (p == (n + 1)) 1 0 ≡ 0
    not_here true e = absurd (omega (arith, h, eqb-true p (n + 1) e))
    not_here false e = rw e refl

one_place : (n p : ℕ) → 0 < p → p ≤ n → below n (λ k. cond (p == (k + 1)) 1 0) ≡ 1
one_place zero p some few = absurd (omega arith)
one_place (suc n) p some few = go (p == (n + 1)) refl (λ less. one_place n p some less)
  where
    go : (b : Bool) → p == (n + 1) ≡ b → (p ≤ n → below n (λ k. cond (p == (k + 1)) 1 0) ≡ 1) → below n (λ k. cond (p == (k + 1)) 1 0) + cond (p == (n + 1)) 1 0 ≡ 1
    go true e earlier = let none = place_above n p (omega (arith, eqb-true p (n + 1) e)) in rw e (omega (arith, none))
    go false e earlier = let one = earlier (let ne = eqb-false p (n + 1) e in grind (arith, few, ne)) in rw e (omega (arith, one))

-- numbers of which none is above one come to at most as many as there are; if to as many, each is one
at_most : (n : ℕ) (f : ℕ → ℕ) → ((k : ℕ) → k < n → f k ≤ 1) → below n f ≤ n
at_most zero f h = let none : below 0 f ≡ 0 = refl in omega (arith, none)
at_most (suc n) f h = omega (arith, at_most n f (λ k within. h k (omega (arith, within))), h n (omega arith))

each_one : (n : ℕ) (f : ℕ → ℕ) → ((k : ℕ) → k < n → f k ≤ 1) → below n f ≡ n → (k : ℕ) → k < n → f k ≡ 1
each_one zero f h e k within = absurd (omega (arith, within))
each_one (suc n) f h e k within = go (k == n) refl (each_one n f (λ j less. h j (omega (arith, less))))
  where
    rest : below n f ≤ n
    rest = at_most n f (λ j less. h j (omega (arith, less)))

    last : f n ≤ 1
    last = h n (omega arith)

    go : (b : Bool) → k == n ≡ b → (below n f ≡ n → (j : ℕ) → j < n → f j ≡ 1) → f k ≡ 1
    go true same earlier = ap f (eqb-true k n same) ∙ omega (arith, e, rest, last)
    go false other earlier = earlier (omega (arith, e, rest, last)) k (let ne = eqb-false k n other in grind (arith, within, ne))

-- each receipt has one place among those of the calls
stubs_below : (calls : List Called) (low : ℕ) (stubs : List Receipt) → FitRising calls low stubs → below (length calls) (λ k. count_at (k + 1) stubs) ≡ length stubs
stubs_below calls low [] fit = below_none (length calls)
stubs_below calls low (s ∷ ss) fit =
    omega (
      arith,
      below_both (length calls) (λ k. count_at (k + 1) (s ∷ ss)) (λ k. cond (s.at == (k + 1)) 1 0) (λ k. count_at (k + 1) ss) (λ k. sum_by-cons (λ (x : Receipt). cond (x.at == (k + 1)) 1 0) s ss),
      one_place (length calls) s.at fit.1.0 (omega (arith, fit.1.0, slice_get_within calls (s.at - 1) _ fit.1.1)),
      stubs_below calls s.at ss fit.2,
    )

seats_below : (calls : List Called) (seats : List SeatRecord) → All (λ s. FitRising calls 0 s.stubs) seats → below (length calls) (λ k. count_in (k + 1) seats) ≡ receipts_in seats
seats_below calls [] each = below_none (length calls)
seats_below calls (s ∷ ss) each =
    omega (
      arith,
      below_both (length calls) (λ k. count_in (k + 1) (s ∷ ss)) (λ k. count_at (k + 1) s.stubs) (λ k. count_in (k + 1) ss) (λ k. sum_by-cons (λ (x : SeatRecord). count_at (k + 1) x.stubs) s ss),
      stubs_below calls 0 s.stubs (each 0 s (omega arith)),
      seats_below calls ss (λ k d within. each (suc k) d (omega (arith, within))),
      sum_by-cons (λ (x : SeatRecord). length x.stubs) s ss,
    )

pub covers : (calls : List Called) (seats : List SeatRecord) → Agree calls seats → length calls ≡ receipts_in seats → Covers calls seats
covers calls seats agree count = record { one = each_one (length calls) (λ k. count_in (k + 1) seats) agree.apart (seats_below calls seats agree.each ∙ sym count) }

-- a list of seats of which a part, all of it, was lent and is as it was
pub written_back : (n : ℕ) (back seats : List SeatRecord) → back ≡ seats → n ≡ length seats → take n (back ++ drop (length back) seats) ≡ seats
written_back n back seats same many = rw (same, many, drop-length seats, append-nil seats) (take-length seats)
