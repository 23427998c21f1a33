-- The last of the held messages.
use Rattle.totem_ring.proofs.Common.{◌≡◌, ℕ, zero, suc, ◌+◌, ◌<◌, nat_lt, [], ◌∷◌, length, slice_get, Some, ◌∙◌, ap, arith, Message, Held, holds_above, RisesFrom}
use Rattle.std.proofs.Math.Bool.{or-false}
use Rattle.std.proofs.lemmas.Bool.Decides.{nat_tests}

-- every element is above the lower bound of the list
above_at : (low k : ℕ) (es : Held) (e : ℕ × Message) → RisesFrom low es → slice_get es k ≡ Some e → low < e.0
above_at low k [] e h at = absurd cc
above_at low zero (x ∷ xs) e h at = let same : x ≡ e = cc in let number : x.0 ≡ e.0 = ap (λ (y : ℕ × Message). y.0) same in omega (arith, h.0)
above_at low (suc k) (x ∷ xs) e h at = let above : x.0 < e.0 = above_at x.0 k xs e h.2 at in omega (arith, h.0)

-- a number above seq is held exactly where the last one is above it
pub last_above : (low k seq : ℕ) (es : Held) (e : ℕ × Message) → RisesFrom low es → k + 1 ≡ length es → slice_get es k ≡ Some e → holds_above es seq ≡ nat_lt seq e.0
last_above low k seq [] e h len at = absurd cc
last_above low zero seq (x ∷ []) e h len at = let same : x ≡ e = cc in or-false (nat_lt seq x.0) ∙ ap (λ (y : ℕ × Message). nat_lt seq y.0) same
last_above low zero seq (x ∷ y ∷ ys) e h len at = absurd (omega arith)
last_above low (suc k) seq (x ∷ xs) e h len at = grind (arith, nat_tests, above_at x.0 k xs e, last_above x.0 k seq xs e)
