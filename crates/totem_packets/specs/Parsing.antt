-- The results of the parsers of packets, and how the results of a reader agree with them.
use Rattle.std.specs.Prelude.{◌≡◌, ◌≢◌, ℕ, ◌<◌, List, slice_index, Result, Ok, Err}
use Rattle.totem_packets.specs.declared.fault.PacketFault.{PacketFault}
use Rattle.totem_packets.specs.declared.fault.PacketFault.TheVariants.{Memory}

-- a value and the bytes after it, or a fault
abbrev pub Parsed : Type 0 → Type 0
Parsed Y = Result (Y × List ℕ) PacketFault

-- the parser gives this fault, unless memory was refused
pub record Fails {Y : Type 0} (fault : PacketFault) (parsed : Result Y PacketFault) : Type 0 where
  pub is : fault ≢ Memory → parsed ≡ Err fault

-- the call's result is the parser's, except that it may be out of memory
abbrev pub Gives : {Y : Type 0} → Result Y PacketFault → Result Y PacketFault → Type 0
Gives (Ok y) parsed = parsed ≡ Ok y
Gives (Err fault) parsed = Fails fault parsed

-- the reader's result, seen by `view`, and the bytes it left are the parser's, except that it may be out of memory
abbrev pub Reads : {X Y : Type 0} → (X → Y) → Result X PacketFault → List ℕ → Parsed Y → Type 0
Reads view (Ok x) left parsed = parsed ≡ Ok (view x, left)
Reads view (Err fault) left parsed = Fails fault parsed

-- each number is a byte
abbrev pub AreBytes : List ℕ → Type 0
AreBytes bytes = (i : ℕ) → slice_index bytes i < 256
