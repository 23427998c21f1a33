-- What holds of the bytes of packets (docs/PROTOCOL.md, "Packets").
use Rattle.std.specs.Prelude.{◌≡◌, ℕ, ◌<◌, ◌≤◌, List, [], ◌∷◌, ◌++◌, slice_get, Some, Err, ◌⊎◌}
use Rattle.totem_packets.specs.declared.commit_member.CommitMember.{CommitMember}
use Rattle.totem_packets.specs.declared.fault.PacketFault.TheVariants.{Short, Range}
use Rattle.totem_packets.specs.declared.packet.Packet as packet
use Rattle.totem_packets.specs.declared.packet.Packet.TheVariants as packets
use Rattle.totem_packets.specs.Grammar.{decode_packet}
use Rattle.totem_packets.specs.Lives.{reported_life}
use Rattle.totem_packets.specs.Ranges.{IsPacket}
use Rattle.totem_packets.specs.Spelling.{packet_bytes}

-- the first byte is none of 1 to 5
abbrev pub IsOfNoKind : List ℕ → Type 0
IsOfNoKind [] = ⊥
IsOfNoKind (kind ∷ rest) = (kind ≡ 0) ⊎ (5 < kind)

-- the first byte is one of 1 to 5
abbrev pub IsOfKind : List ℕ → Type 0
IsOfKind [] = ⊥
IsOfKind (kind ∷ rest) = (0 < kind) × (kind ≤ 5)

-- a commit token in which a member reports from a life above the first
abbrev pub TellsLaterLife : packet.Packet → Type 0
TellsLaterLife (packets.Commit token) = (at : ℕ) × (member : CommitMember) × (slice_get token.members at ≡ Some member) × (1 < reported_life member.report)
TellsLaterLife (packets.Message m) = ⊥
TellsLaterLife (packets.Token t) = ⊥
TellsLaterLife (packets.Join j) = ⊥

-- a packet's spelling, with one byte or more after it
pub record HasMore (bytes : List ℕ) : Type 0 where
  pub packet : packet.Packet
  pub byte : ℕ
  pub rest : List ℕ
  pub fits : IsPacket packet
  pub whole : bytes ≡ packet_bytes packet ++ byte ∷ rest

-- nothing is wrong before some byte; with it a field has a value that is not allowed, whatever follows
pub record IsFirstWrong (bytes : List ℕ) : Type 0 where
  pub front : List ℕ
  pub byte : ℕ
  pub rest : List ℕ
  pub whole : bytes ≡ front ++ byte ∷ rest
  pub before : decode_packet front ≡ Err Short
  pub wrong : (more : List ℕ) → decode_packet (front ++ byte ∷ more) ≡ Err Range
