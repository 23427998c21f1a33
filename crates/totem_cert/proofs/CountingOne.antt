-- Adding one to a count, or taking one away.
use Rattle.totem_cert.proofs.Common.{◌≡◌, ◌≢◌, ℕ, ◌+◌, ◌-◌, ◌<◌, ◌≤◌, ◌⊎◌, inl, inr, List, length, get_or, Some, None, refl, arith, common_steps, one, Adds, Takes}
use Rattle.std.proofs.Math.ListN.{set}

pub one_cases : (n c : ℕ) → ((c ≡ n) × (one (Some n) c ≡ 1)) ⊎ ((c ≢ n) × (one (Some n) c ≡ 0))
one_cases n c = grind (arith, common_steps)

pub adds_one : (old : List ℕ) (class n : ℕ) → class < length old → n ≡ get_or old class 0 + 1 → Adds old (set old class n) (one (Some class))
adds_one old class n within is = grind (arith, common_steps)

pub adds_past : (old : List ℕ) (class : ℕ) → length old ≤ class → Adds old old (one (Some class))
adds_past old class past = record { long = refl; each = λ c lt. elim (one_cases class c) [ inl (same, counted) ↦ absurd (omega (arith, same)) | inr (other, counted) ↦ omega arith ] }

pub adds_nothing : (old : List ℕ) → Adds old old (one None)
adds_nothing old = record { long = refl; each = λ c lt. omega arith }

pub takes_one : (old : List ℕ) (class n : ℕ) → class < length old → n ≡ get_or old class 0 - 1 → Takes old (set old class n) (one (Some class))
takes_one old class n within is = grind (arith, common_steps)

pub takes_past : (old : List ℕ) (class : ℕ) → length old ≤ class → Takes old old (one (Some class))
takes_past old class past = record { long = refl; each = λ c lt. elim (one_cases class c) [ inl (same, counted) ↦ absurd (omega (arith, same)) | inr (other, counted) ↦ omega arith ] }

pub takes_nothing : (old : List ℕ) → Takes old old (one None)
takes_nothing old = record { long = refl; each = λ c lt. omega arith }
