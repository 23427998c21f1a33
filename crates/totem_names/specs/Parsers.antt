-- Rings, configurations and messages as text.
use Rattle.std.specs.Prelude.{ℕ, List, Ok, Err, ◌==◌, if◌then◌else◌}
use Rattle.totem_names.specs.declared.conf.ConfId.{ConfId}
use Rattle.totem_names.specs.declared.conf.ConfId.TheVariants.{Regular, Transitional}
use Rattle.totem_names.specs.declared.fault.TextFault.TheVariants.{Word}
use Rattle.totem_names.specs.Names.{RingName, MessageName}
use Rattle.totem_names.specs.Sources.{Parsed, ◌>>=◌}
use Rattle.totem_names.specs.Numbers.{byte_at, number_to, proc_at}

-- a ring's number, a dot, its representative, and the byte end after it
unfoldable pub ring_at : ℕ → List ℕ → Parsed RingName
ring_at end bytes = do
  seq ← number_to 4294967295 46 bytes
  rep ← proc_at end seq.1
  Ok (record { seq = seq.0; rep = rep.0 }, rep.1)

-- a message: a ring, a hash, its number, and the byte end after it
unfoldable pub message_at : ℕ → List ℕ → Parsed MessageName
message_at end bytes = do
  ring ← ring_at 35 bytes
  number ← number_to 4294967295 end ring.1
  Ok (record { ring = ring.0; number = number.0 }, number.1)

-- a regular configuration: its ring
unfoldable pub regular_at : ℕ → List ℕ → Parsed ConfId
regular_at end bytes = do
  ring ← ring_at end bytes
  Ok (Regular ring.0, ring.1)

-- a transitional configuration: the next ring, a slash, its least member
unfoldable pub transitional_at : ℕ → List ℕ → Parsed ConfId
transitional_at end bytes = do
  next ← ring_at 47 bytes
  least ← proc_at end next.1
  Ok (Transitional least.0 next.0, least.1)

-- a configuration, by its letter
unfoldable pub conf_at : ℕ → List ℕ → Parsed ConfId
conf_at end bytes = do
  kind ← byte_at bytes
  if kind.0 == 114 then regular_at end kind.1 else if kind.0 == 116 then transitional_at end kind.1 else Err Word
