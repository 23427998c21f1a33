-- What a message may carry (docs/PROTOCOL.md, "Packets").
use Rattle.std.specs.Prelude.{ℕ, ◌≤◌, List, length}

-- at most 1,024 bytes
abbrev pub IsPayload : List ℕ → Type 0
IsPayload bytes = length bytes ≤ 1024
