-- A process of a run has an identifier and a life. Contracts see both as one number, its rank.
use Rattle.std.specs.Prelude.{◌≡◌, ℕ, ◌+◌, ◌*◌, ◌/◌, ◌%◌, ◌<◌, ◌⊎◌}

-- the rank of an identifier and a life of 16 bits
abbrev pub rank_of : ℕ → ℕ → ℕ
rank_of id life = id * 65536 + life

-- the identifier of a rank
abbrev pub id_of : ℕ → ℕ
id_of rank = rank / 65536

-- the life of a rank
abbrev pub life_of : ℕ → ℕ
life_of rank = rank % 65536

-- processes of a run by identifier, and then by life
abbrev pub LifeBelow : ℕ → ℕ → Type 0
LifeBelow a b = (id_of a < id_of b) ⊎ ((id_of a ≡ id_of b) × (life_of a < life_of b))
