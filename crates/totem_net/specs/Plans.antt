-- What contracts see of a plan: its three numbers.
use Rattle.std.specs.Prelude.{ℕ}

-- how many packets in a hundred are lost and how many repeated, and how many packets a held copy lets pass at most
pub record Odds : Type 0 where
  pub lose : ℕ
  pub repeat : ℕ
  pub hold : ℕ
