-- Processes and their lives: rings know identifiers, configurations know lives (docs/PROTOCOL.md, "The node").
use Rattle.std.specs.Prelude.{ℕ, ◌<◌, List, length, map}
use Rattle.totem_names.specs.Ranks.{rank_of, id_of}
use Rattle.totem_packets.specs.Rising.{IsProcesses}

-- the first life of an identifier
abbrev pub first_rank : ℕ → ℕ
first_rank id = rank_of id 1

-- the first lives of these identifiers
abbrev pub first_ranks : List ℕ → List ℕ
first_ranks ids = map first_rank ids

-- the identifiers of these processes
abbrev pub ids_of : List ℕ → List ℕ
ids_of procs = map id_of procs

-- the members of a ring, by identifier: 1 to 32, strictly ascending
pub record IsRingMembers (ids : List ℕ) : Type 0 where
  pub some : 0 < length ids
  pub processes : IsProcesses ids
