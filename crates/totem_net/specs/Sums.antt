use Rattle.std.specs.Prelude.{ℕ, ◌+◌, ◌-◌, ◌^◌, min}

-- the sum of two counts, which is at most 2 ^ 64 - 1
abbrev pub more : ℕ → ℕ → ℕ
more count added = min (count + added) (2 ^ 64 - 1)
