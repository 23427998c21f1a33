-- Lists of numbers and of processes in packets (docs/PROTOCOL.md, "Packets").
use Rattle.std.specs.Prelude.{ℕ, ◌<◌, ◌≤◌, List, length, All, AllPairs}
use Rattle.totem_names.specs.Texts.{IsUpTo, IsProcess}

abbrev pub IsBelow : ℕ → ℕ → Type 0
IsBelow p q = p < q

-- the number of a message or of a ring
abbrev pub IsNumber : ℕ → Type 0
IsNumber = IsUpTo 4294967295

-- 0 to 64 numbers, strictly ascending
pub record IsRequests (numbers : List ℕ) : Type 0 where
  pub few : length numbers ≤ 64
  pub rising : AllPairs IsBelow numbers
  pub each : All IsNumber numbers

-- 0 to 32 processes, strictly ascending
pub record IsProcesses (procs : List ℕ) : Type 0 where
  pub few : length procs ≤ 32
  pub rising : AllPairs IsBelow procs
  pub each : All IsProcess procs
