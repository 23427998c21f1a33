-- The fields of packets, read from left to right (docs/PROTOCOL.md, "Packets").
use Rattle.std.specs.Prelude.{ℕ, zero, suc, List, [], ◌∷◌, length, take, drop, Option, Some, None, Ok, Err, nat_lt, nat_le, ◌==◌, if◌then◌else◌}
use Rattle.std.specs.Int.{Width, w8, w16, w32, byte_len, from_be_bytes}
use Rattle.totem_names.specs.Names.{RingName}
use Rattle.totem_packets.specs.declared.fault.PacketFault.TheVariants.{Short, Range}
use Rattle.totem_names.specs.Sources.{◌>>=◌}
use Rattle.totem_packets.specs.Parsing.{Parsed}

-- the given number of bytes
unfoldable pub bytes_at : ℕ → List ℕ → Parsed (List ℕ)
bytes_at n bytes = if nat_lt (length bytes) n then Err Short else Ok (take n bytes, drop n bytes)

-- a number of this width, its highest byte first
unfoldable pub number_at : Width → List ℕ → Parsed ℕ
number_at w bytes = do
  front ← bytes_at (byte_len w) bytes
  Ok (from_be_bytes w front.0, front.1)

-- a number above this one
unfoldable pub above_at : Width → ℕ → List ℕ → Parsed ℕ
above_at w least bytes = do
  n ← number_at w bytes
  if nat_lt least n.0 then Ok n else Err Range

-- a number of at most this
unfoldable pub up_to_at : Width → ℕ → List ℕ → Parsed ℕ
up_to_at w most bytes = do
  n ← number_at w bytes
  if nat_le n.0 most then Ok n else Err Range

-- n elements, each above the one before by its number, the first one above `last`
unfoldable pub rising_at : {Y : Type 0} → (ℕ → List ℕ → Parsed Y) → (Y → ℕ) → ℕ → ℕ → List ℕ → Parsed (List Y)
rising_at one_above number_of zero last bytes = Ok ([], bytes)
rising_at one_above number_of (suc n) last bytes = do
  first ← one_above last bytes
  others ← rising_at one_above number_of n (number_of first.0) first.1
  Ok (first.0 ∷ others.0, others.1)

-- a ring: its number and its representative
unfoldable pub ring_at : List ℕ → Parsed RingName
ring_at bytes = do
  seq ← above_at w32 0 bytes
  rep ← above_at w16 0 seq.1
  Ok (record { seq = seq.0; rep = rep.0 }, rep.1)

-- a payload: its length, at most 1,024, and its bytes
unfoldable pub payload_at : List ℕ → Parsed (List ℕ)
payload_at bytes = do
  len ← up_to_at w16 1024 bytes
  bytes_at len.0 len.1

-- a process that may be missing: 0 is none
unfoldable pub maybe_at : List ℕ → Parsed (Option ℕ)
maybe_at bytes = do
  n ← number_at w16 bytes
  Ok ((if n.0 == 0 then None else Some n.0), n.1)

-- ascending numbers of one width, at most `most` of them, after their count
unfoldable pub list_at : Width → ℕ → List ℕ → Parsed (List ℕ)
list_at w most bytes = do
  count ← up_to_at w8 most bytes
  rising_at (above_at w) (λ n. n) count.0 0 count.1
