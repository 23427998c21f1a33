-- What always holds of the held messages (docs/PROTOCOL.md, "The ring").
use Rattle.std.specs.Prelude.{◌≡◌, ℕ, ◌+◌, ◌^◌, ◌<◌, ◌≤◌, [], ◌∷◌, true, false}
use Rattle.totem_ring.specs.Rings.{Held, holds, aru_of}

-- the numbers are ascending, above low and within 32 bits
abbrev pub RisesFrom : ℕ → Held → Type 0
RisesFrom low [] = Unit {0}
RisesFrom low (e ∷ es) = (low < e.0) × (e.0 < 2 ^ 32) × RisesFrom e.0 es

-- what is held, with the greatest number up to which all are held
pub record KeepsAru (held : Held) (aru : ℕ) : Type 0 where
  pub aru_is : aru ≡ aru_of held
  pub rises : RisesFrom 0 held

-- all above low up to n are held, and n + 1 is not
pub record IsWholeTo (held : Held) (low n : ℕ) : Type 0 where
  pub begins : low ≤ n
  pub whole : (k : ℕ) → low < k → k ≤ n → holds held k ≡ true
  pub stops : holds held (n + 1) ≡ false
