-- The parts of a rank.
use Rattle.std.proofs.Common.{◌≡◌, ℕ, ◌<◌, arith}
use Rattle.totem_names.specs.Ranks.{rank_of, id_of, life_of}

pub id_of_rank : (id life : ℕ) → life < 65536 → id_of (rank_of id life) ≡ id
id_of_rank id life small = omega arith

pub life_of_rank : (id life : ℕ) → life < 65536 → life_of (rank_of id life) ≡ life
life_of_rank id life small = omega arith

pub rank_of_parts : (rank : ℕ) → rank_of (id_of rank) (life_of rank) ≡ rank
rank_of_parts rank = omega arith
