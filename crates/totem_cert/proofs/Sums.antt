-- Sums of the values of a function.
use Rattle.totem_cert.proofs.Common.{◌≡◌, ◌≢◌, ℕ, zero, suc, ◌+◌, ◌*◌, ◌<◌, ◌≤◌, refl, arith, eq-zero-or-pos, cases_eq, sum_to}

pub sum_same : (n : ℕ) (f g : ℕ → ℕ) → ((i : ℕ) → i < n → f i ≡ g i) → sum_to n f ≡ sum_to n g
sum_same zero f g same = refl
sum_same (suc n) f g same = grind (arith, sum_same n f g, same n)

-- one value is greater by t, and the others are equal
pub sum_change : (n i t : ℕ) (f g : ℕ → ℕ) → i < n → f i ≡ g i + t → ((j : ℕ) → j < n → j ≢ i → f j ≡ g j) → sum_to n f ≡ sum_to n g + t
sum_change zero i t f g lt here others = absurd (omega arith)
sum_change (suc n) i t f g lt here others = grind (arith, cases_eq i n, sum_same n f g, sum_change n i t f g, others n)

pub sum_zero : (n i : ℕ) (f : ℕ → ℕ) → sum_to n f ≡ 0 → i < n → f i ≡ 0
sum_zero zero i f none lt = absurd (omega arith)
sum_zero (suc n) i f none lt = grind (arith, cases_eq i n, sum_zero n i f)

pub sum_some : (n : ℕ) (f : ℕ → ℕ) → 0 < sum_to n f → (i : ℕ) × (i < n) × (0 < f i)
sum_some zero f some = absurd (omega arith)
sum_some (suc n) f some = grind (arith, eq-zero-or-pos (f n), sum_some n f)

pub sum_millions : (n : ℕ) (f : ℕ → ℕ) → ((i : ℕ) → f i ≤ 2000000) → sum_to n f ≤ n * 2000000
sum_millions zero f each = omega arith
sum_millions (suc n) f each = omega (arith, sum_millions n f each, each n)
