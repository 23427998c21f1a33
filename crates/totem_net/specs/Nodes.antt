-- The nodes of a network (docs/PROTOCOL.md, "The network").
use Rattle.std.specs.Prelude.{ℕ, List}
use Rattle.std.specs.List.{range_with_len}

-- 1 to n
abbrev pub node_numbers : ℕ → List ℕ
node_numbers n = range_with_len 1 n
