-- Sets of logs as numbers.
use Rattle.totem_judge_traffic.proofs.Common.{◌≡◌, ◌≢◌, ◌⊎◌, ◌↔◌, inl, inr, ℕ, suc, ◌+◌, ◌*◌, ◌-◌, ◌/◌, ◌%◌, ◌^◌, ◌<◌, ◌≤◌, min, max, sym, ◌∙◌, ap, arith, w32, bit_and, bit_or}
use Rattle.std.specs.Int.{bit_at, bit_not, trailing_zeros, leading_zeros}
use Rattle.std.proofs.lemmas.Nat.Bits.{bit_at-lt, bit_at-zero, bit_at_or, bit_at_and, bit_at_not, bit_at_above, bit_at_ones, bit_at_set_same, bit_at_set_other, bit_at_clear_same, bit_at_clear_other, bit_at-trailing_zeros, same_from_bits}
use Rattle.std.proofs.lemmas.Nat.{leading_length}
use Rattle.std.proofs.Math.Nat.{div-eq_of_lt-le, pow-succ'}
use Rattle.totem_judge_traffic.specs.declared.log_set.LogSet.{LogSet}
use Rattle.totem_judge_traffic.specs.LogSets.{Has, IsEmpty, IsWithin, AreApart, IsLeast, IsEnd}

-- ---- one bit

one_or_not : (b : ℕ) → (b ≡ 1) ⊎ (b ≡ 1 → ⊥)
one_or_not b = grind arith

less_or_not : (a b : ℕ) → (a < b) ⊎ (b ≤ a)
less_or_not a b = grind arith

max_left : (x y : ℕ) → x < 2 → y < 2 → max x y ≡ 1 → (x ≡ 1) ⊎ (y ≡ 1)
max_left x y a b h = elim (one_or_not x) [ inl one ↦ inl one | inr not_one ↦ inr (omega arith) ]

max_right : (x y : ℕ) → x < 2 → y < 2 → (x ≡ 1) ⊎ (y ≡ 1) → max x y ≡ 1
max_right x y a b h = grind arith

-- a test of a bit
pub has_or_not : (set : LogSet) (log : ℕ) → Has set log ⊎ (Has set log → ⊥)
unfolding Has
has_or_not set log = grind (arith, one_or_not)

-- ---- the operations

pub none_is_empty : (bits : ℕ) → bits ≡ 0 → IsEmpty (record { bits = bits })
unfolding Has
none_is_empty bits e = grind (arith, bit_at-zero)

pub empty_is_none : (set : LogSet) → IsEmpty set → set.bits ≡ 0
unfolding Has
empty_is_none set empty = same_from_bits set.bits 0 (λ log. bit_at_none log (bit_at-lt set.bits log) (empty.none log) ∙ sym (bit_at-zero log))
  where
    bit_at_none : (log : ℕ) → bit_at set.bits log < 2 → (bit_at set.bits log ≡ 1 → ⊥) → bit_at set.bits log ≡ 0
    bit_at_none log lt never = omega arith

pub all_have : (log : ℕ) → log < 32 → Has (record { bits = 4294967295 }) log
unfolding Has
all_have log lt = bit_at_ones 32 log lt

pub with_same : (set : LogSet) (log : ℕ) → log < 32 → Has (record { bits = bit_or set.bits (1 * 2 ^ log % 2 ^ 32) }) log
unfolding Has
with_same set log lt = bit_at_set_same w32 set.bits log lt

pub with_others : (set : LogSet) (log : ℕ) → log < 32 → (other : ℕ) → other ≢ log → Has (record { bits = bit_or set.bits (1 * 2 ^ log % 2 ^ 32) }) other ↔ Has set other
unfolding Has
with_others set log lt other apart = let same = bit_at_set_other w32 set.bits log lt other apart in (λ h. sym same ∙ h, λ h. same ∙ h)

pub without_same : (set : LogSet) (log : ℕ) → log < 32 → Has (record { bits = bit_and set.bits (bit_not w32 (1 * 2 ^ log % 2 ^ 32)) }) log → ⊥
unfolding Has
without_same set log lt h = let gone = bit_at_clear_same w32 set.bits log lt in omega arith

-- a set has no log from 32 on
above : (set : LogSet) (log : ℕ) → set.bits < 2 ^ 32 → 32 ≤ log → Has set log → ⊥
unfolding Has
above set log fits over h = let none = bit_at_above set.bits 32 log fits over in omega arith

above_and : (set : LogSet) (mask log : ℕ) → set.bits < 2 ^ 32 → 32 ≤ log → Has (record { bits = bit_and set.bits mask }) log → ⊥
unfolding Has
above_and set mask log fits over h = let none = bit_at_above set.bits 32 log fits over in let both = bit_at_and set.bits mask log in omega arith

pub without_others : (set : LogSet) (log : ℕ) → set.bits < 2 ^ 32 → log < 32 → (other : ℕ) → other ≢ log
    → Has (record { bits = bit_and set.bits (bit_not w32 (1 * 2 ^ log % 2 ^ 32)) }) other ↔ Has set other
unfolding Has
without_others set log fits lt other apart = elim (less_or_not other 32) [
  | inl under ↦ (let same = bit_at_clear_other w32 set.bits log lt other under apart in (λ h. sym same ∙ h, λ h. same ∙ h))
  | inr over ↦ (λ h. absurd (above_and set (bit_not w32 (1 * 2 ^ log % 2 ^ 32)) other fits over h), λ h. absurd (above set other fits over h))
]

pub union_of : (set other : LogSet) (log : ℕ) → Has (record { bits = bit_or set.bits other.bits }) log ↔ (Has set log ⊎ Has other log)
unfolding Has
union_of set other log = grind (arith, bit_at_or, max_left, bit_at-lt, max_right)

both_one : (x y : ℕ) → x < 2 → y < 2 → min x y ≡ 1 → (x ≡ 1) × (y ≡ 1)
both_one x y a b h = (omega arith, omega arith)

pub intersection_of : (set other : LogSet) (log : ℕ) → Has (record { bits = bit_and set.bits other.bits }) log ↔ (Has set log × Has other log)
unfolding Has
intersection_of set other log = grind (arith, bit_at_and, both_one, bit_at-lt)

less_one : (set other log : ℕ) → other < 2 ^ 32 → log < 32 → (bit_at (bit_and set (bit_not w32 other)) log ≡ 1 → (bit_at set log ≡ 1) × (bit_at other log ≡ 1 → ⊥))
    × ((bit_at set log ≡ 1) × (bit_at other log ≡ 1 → ⊥) → bit_at (bit_and set (bit_not w32 other)) log ≡ 1)
less_one set other log fits lt =
    let both : bit_at (bit_and set (bit_not w32 other)) log ≡ min (bit_at set log) (bit_at (bit_not w32 other) log) = bit_at_and set (bit_not w32 other) log in
    let turned : bit_at (bit_not w32 other) log ≡ 1 - bit_at other log = bit_at_not w32 other log fits lt in
    let few = bit_at-lt set log in
    let few_others = bit_at-lt other log in (
      λ h. (omega arith, λ k. omega arith),
      λ (a, b). (let none : bit_at other log ≡ 0 = none_of (bit_at other log) few_others b in omega arith),
    )
  where
    none_of : (b : ℕ) → b < 2 → (b ≡ 1 → ⊥) → b ≡ 0
    none_of b lt never = omega arith

pub minus_of : (set other : LogSet) → set.bits < 2 ^ 32 → other.bits < 2 ^ 32 → (log : ℕ)
    → Has (record { bits = bit_and set.bits (bit_not w32 other.bits) }) log ↔ (Has set log × (Has other log → ⊥))
unfolding Has
minus_of set other fits others_fit log = grind (arith, less_or_not, less_one, above_and, above)

pub within_of : (set other left : LogSet) → ((log : ℕ) → Has left log ↔ (Has set log × (Has other log → ⊥))) → IsEmpty left ↔ IsWithin set other
within_of set other left is = grind (arith, has_or_not)

pub apart_of : (set other both : LogSet) → ((log : ℕ) → Has both log ↔ (Has set log × Has other log)) → IsEmpty both ↔ AreApart set other
apart_of set other both is = grind arith

pub least_of : (set : LogSet) → set.bits < 2 ^ 32 → (set.bits ≡ 0 → ⊥) → IsLeast set (trailing_zeros w32 set.bits)
unfolding Has
least_of set fits some =
    let known = bit_at-trailing_zeros w32 set.bits (omega arith) fits in
    record { within = known.0; has = known.1; first = λ other lt h. let none = known.2 other lt in omega arith }

-- the highest digit of a number
top : (a m : ℕ) → 0 < m → a < 2 ^ m → 2 ^ m ≤ 2 * a + 1 → bit_at a (m - 1) ≡ 1
top a m some under over =
    let next : m ≡ suc (m - 1) = omega arith in
    let twice : 2 ^ m ≡ 2 * 2 ^ (m - 1) = ap (λ n. 2 ^ n) next ∙ pow-succ' 2 (m - 1) in
    let once : a / 2 ^ (m - 1) ≡ 1 = div-eq_of_lt-le (2 ^ (m - 1)) (omega arith) (omega arith) in
    ap (λ n. n % 2) once

pub end_of : (set : LogSet) → set.bits < 2 ^ 32 → IsEnd set (32 - leading_zeros w32 set.bits)
unfolding Has
end_of set fits =
    let (m, known, under, over) = leading_length 32 set.bits fits in
    let end : 32 - leading_zeros w32 set.bits ≡ m = omega arith in
    record { within = omega arith; above = λ log has. elim (less_or_not log m) [ inl lt ↦ omega arith | inr past ↦ absurd (let none = bit_at_above set.bits m log under past in omega arith) ]; last = λ some. ap (λ n. bit_at set.bits (n - 1)) end ∙ top set.bits m (omega arith) under over }

pub ruleset operations = (none_is_empty, empty_is_none, all_have, with_same, with_others, without_same, without_others, union_of, intersection_of, minus_of, within_of, apart_of, least_of, end_of)
