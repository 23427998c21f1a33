-- The members of a configuration (docs/SPECIFICATIONS.md, "Runs").
use Rattle.std.specs.Prelude.{ℕ, ◌<◌, ◌≤◌, List, length, All, AllPairs}
use Rattle.totem_names.specs.declared.version.Version.{Version}
use Rattle.totem_names.specs.declared.version.Version.TheVariants.{Three}
use Rattle.totem_names.specs.Processes.{IsProcessIn}
use Rattle.totem_names.specs.Ranks.{id_of}

-- by identifier
abbrev pub IsBelow : ℕ → ℕ → Type 0
IsBelow p q = id_of p < id_of q

-- 1 to 32 processes that texts of this version can write, their identifiers strictly ascending: there is at most one life
-- of each identifier
pub record IsMembersIn (version : Version) (members : List ℕ) : Type 0 where
  pub some : 0 < length members
  pub few : length members ≤ 32
  pub rising : AllPairs IsBelow members
  pub processes : All (IsProcessIn version) members

-- members with any lives
abbrev pub IsMembers : List ℕ → Type 0
IsMembers = IsMembersIn Three
