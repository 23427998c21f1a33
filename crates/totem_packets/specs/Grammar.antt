-- Packets, read from left to right (docs/PROTOCOL.md, "Packets").
use Rattle.std.specs.Prelude.{ℕ, List, length, Option, Some, None, Result, Ok, Err, ◌==◌, if◌then◌else◌}
use Rattle.std.specs.Int.{w8, w16, w32, w64}
use Rattle.totem_names.specs.declared.message.Service.{Service}
use Rattle.totem_names.specs.declared.message.Service.TheVariants.{Agreed, Safe}
use Rattle.totem_packets.specs.declared.commit.CommitToken.{CommitToken}
use Rattle.totem_packets.specs.declared.commit.Round.{Round}
use Rattle.totem_packets.specs.declared.commit.Round.TheVariants.{First, Second}
use Rattle.totem_packets.specs.declared.commit_member.CommitMember.{CommitMember}
use Rattle.totem_packets.specs.declared.commit_member.Report.{Report}
use Rattle.totem_packets.specs.declared.fault.PacketFault.{PacketFault}
use Rattle.totem_packets.specs.declared.fault.PacketFault.TheVariants.{Kind, Range, Trailing}
use Rattle.totem_packets.specs.declared.join.Join.{Join}
use Rattle.totem_packets.specs.declared.lives.Lives.{Lives}
use Rattle.totem_packets.specs.declared.lives.Lives.TheVariants.{Untold, Told}
use Rattle.totem_packets.specs.declared.message.Body.{Body}
use Rattle.totem_packets.specs.declared.message.Body.TheVariants.{App, Old, Mark}
use Rattle.totem_packets.specs.declared.message.Message as message
use Rattle.totem_packets.specs.declared.packet.Packet as packet
use Rattle.totem_packets.specs.declared.packet.Packet.TheVariants as packets
use Rattle.totem_packets.specs.declared.token.Token as token
use Rattle.totem_names.specs.Sources.{◌>>=◌}
use Rattle.totem_packets.specs.Parsing.{Parsed}
use Rattle.totem_packets.specs.Fields.{number_at, above_at, up_to_at, rising_at, ring_at, payload_at, maybe_at, list_at}
use Rattle.totem_packets.specs.Lives.{has_later_life}

-- ---- messages

unfoldable pub app_at : Service → List ℕ → Parsed Body
app_at service bytes = do
  payload ← payload_at bytes
  Ok (App service payload.0, payload.1)

unfoldable pub old_at : Service → List ℕ → Parsed Body
old_at service bytes = do
  ring ← ring_at bytes
  number ← above_at w32 0 ring.1
  sender ← above_at w16 0 number.1
  payload ← payload_at sender.1
  Ok (Old ring.0 number.0 sender.0 service payload.0, payload.1)

-- the body of a message of this kind
unfoldable pub body_of : ℕ → List ℕ → Parsed Body
body_of kind bytes =
    if kind == 0 then app_at Agreed bytes
    else if kind == 1 then app_at Safe bytes
    else if kind == 2 then old_at Agreed bytes
    else if kind == 3 then old_at Safe bytes
    else if kind == 4 then Ok (Mark, bytes)
    else Err Range

unfoldable pub body_at : List ℕ → Parsed Body
body_at bytes = do
  kind ← number_at w8 bytes
  body_of kind.0 kind.1

unfoldable pub message_at : List ℕ → Parsed message.Message
message_at bytes = do
  ring ← ring_at bytes
  number ← above_at w32 0 ring.1
  sender ← above_at w16 0 number.1
  body ← body_at sender.1
  Ok (record { ring = ring.0; number = number.0; sender = sender.0; body = body.0 }, body.1)

-- ---- tokens and joins

unfoldable pub token_at : List ℕ → Parsed token.Token
token_at bytes = do
  ring ← ring_at bytes
  token_seq ← above_at w64 0 ring.1
  seq ← number_at w32 token_seq.1
  aru ← number_at w32 seq.1
  aru_id ← maybe_at aru.1
  rtr ← list_at w32 64 aru_id.1
  Ok (record { ring = ring.0; token_seq = token_seq.0; seq = seq.0; aru = aru.0; aru_id = aru_id.0; rtr = rtr.0 }, rtr.1)

unfoldable pub join_at : List ℕ → Parsed Join
join_at bytes = do
  sender ← above_at w16 0 bytes
  seq ← above_at w32 0 sender.1
  processes ← list_at w16 32 seq.1
  failed ← list_at w16 32 processes.1
  Ok (record { sender = sender.0; seq = seq.0; processes = processes.0; failed = failed.0 }, failed.1)

-- ---- commit tokens

-- 1 is the first round, 2 the second
unfoldable pub round_at : List ℕ → Parsed Round
round_at bytes = do
  round ← number_at w8 bytes
  if round.0 == 1 then Ok (First, round.1) else if round.0 == 2 then Ok (Second, round.1) else Err Range

-- the life of a report; where reports carry no lives, each is the first
unfoldable pub life_at : Lives → List ℕ → Parsed ℕ
life_at Untold bytes = Ok (1, bytes)
life_at Told bytes = above_at w16 0 bytes

unfoldable pub report_at : Lives → List ℕ → Parsed Report
report_at lives bytes = do
  life ← life_at lives bytes
  ring ← ring_at life.1
  aru ← number_at w32 ring.1
  delivered ← number_at w32 aru.1
  obligation ← list_at w16 32 delivered.1
  Ok (record { life = life.0; ring = ring.0; aru = aru.0; delivered = delivered.0; obligation = obligation.0 }, obligation.1)

unfoldable pub filled_at : Lives → List ℕ → Parsed (Option Report)
filled_at lives bytes = do
  report ← report_at lives bytes
  Ok (Some report.0, report.1)

-- 0 is no report, 1 precedes one
unfoldable pub maybe_report_at : Lives → List ℕ → Parsed (Option Report)
maybe_report_at lives bytes = do
  filled ← number_at w8 bytes
  if filled.0 == 0 then Ok (None, filled.1) else if filled.0 == 1 then filled_at lives filled.1 else Err Range

-- a member whose process is above `last`
unfoldable pub member_at : Lives → ℕ → List ℕ → Parsed CommitMember
member_at lives last bytes = do
  proc ← above_at w16 last bytes
  report ← maybe_report_at lives proc.1
  Ok (record { proc = proc.0; report = report.0 }, report.1)

-- 1 to 32 members
unfoldable pub members_at : Lives → List ℕ → Parsed (List CommitMember)
members_at lives bytes = do
  count ← up_to_at w8 32 bytes
  if count.0 == 0 then Err Range else rising_at (member_at lives) (λ m. m.proc) count.0 0 count.1

unfoldable pub commit_at : Lives → List ℕ → Parsed CommitToken
commit_at lives bytes = do
  ring ← ring_at bytes
  round ← round_at ring.1
  members ← members_at lives round.1
  Ok (record { ring = ring.0; round = round.0; members = members.0 }, members.1)

-- a commit token whose reports carry lives, one of them above the first
unfoldable pub later_commit_at : List ℕ → Parsed CommitToken
later_commit_at bytes = do
  token ← commit_at Told bytes
  if has_later_life token.0.members then Ok token else Err Range

-- ---- packets

unfoldable pub message_packet_at : List ℕ → Parsed packet.Packet
message_packet_at bytes = do
  message ← message_at bytes
  Ok (packets.Message message.0, message.1)

unfoldable pub token_packet_at : List ℕ → Parsed packet.Packet
token_packet_at bytes = do
  token ← token_at bytes
  Ok (packets.Token token.0, token.1)

unfoldable pub join_packet_at : List ℕ → Parsed packet.Packet
join_packet_at bytes = do
  join ← join_at bytes
  Ok (packets.Join join.0, join.1)

unfoldable pub commit_packet_at : List ℕ → Parsed packet.Packet
commit_packet_at bytes = do
  token ← commit_at Untold bytes
  Ok (packets.Commit token.0, token.1)

unfoldable pub later_commit_packet_at : List ℕ → Parsed packet.Packet
later_commit_packet_at bytes = do
  token ← later_commit_at bytes
  Ok (packets.Commit token.0, token.1)

-- a packet of the kind that its first byte names
unfoldable pub packet_of : ℕ → List ℕ → Parsed packet.Packet
packet_of kind bytes =
    if kind == 1 then message_packet_at bytes
    else if kind == 2 then token_packet_at bytes
    else if kind == 3 then join_packet_at bytes
    else if kind == 4 then commit_packet_at bytes
    else if kind == 5 then later_commit_packet_at bytes
    else Err Kind

-- a packet, and the bytes after it
unfoldable pub packet_at : List ℕ → Parsed packet.Packet
packet_at bytes = do
  kind ← number_at w8 bytes
  packet_of kind.0 kind.1

-- a packet, and nothing after it
unfoldable pub decode_packet : List ℕ → Result packet.Packet PacketFault
decode_packet bytes = do
  packet ← packet_at bytes
  if length packet.1 == 0 then Ok packet.0 else Err Trailing
