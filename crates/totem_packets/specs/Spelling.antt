-- The one spelling of each packet (docs/PROTOCOL.md, "Packets").
use Rattle.std.specs.Prelude.{ℕ, List, [], ◌++◌, length, Option, Some, None}
use Rattle.std.specs.Int.{Width, w8, w16, w32, w64, to_be_bytes}
use Rattle.std.specs.List.{flat_map}
use Rattle.totem_names.specs.Names.{RingName}
use Rattle.totem_names.specs.declared.message.Service.{Service}
use Rattle.totem_names.specs.declared.message.Service.TheVariants.{Agreed, Safe}
use Rattle.totem_packets.specs.declared.commit.CommitToken.{CommitToken}
use Rattle.totem_packets.specs.declared.commit.Round.{Round}
use Rattle.totem_packets.specs.declared.commit.Round.TheVariants.{First, Second}
use Rattle.totem_packets.specs.declared.commit_member.CommitMember.{CommitMember}
use Rattle.totem_packets.specs.declared.commit_member.Report.{Report}
use Rattle.totem_packets.specs.declared.join.Join.{Join}
use Rattle.totem_packets.specs.declared.lives.Lives.{Lives}
use Rattle.totem_packets.specs.declared.lives.Lives.TheVariants.{Untold, Told}
use Rattle.totem_packets.specs.declared.message.Body.{Body}
use Rattle.totem_packets.specs.declared.message.Body.TheVariants.{App, Old, Mark}
use Rattle.totem_packets.specs.declared.message.Message as message
use Rattle.totem_packets.specs.declared.packet.Packet as packet
use Rattle.totem_packets.specs.declared.packet.Packet.TheVariants as packets
use Rattle.totem_packets.specs.declared.token.Token as token
use Rattle.totem_packets.specs.Lives.{lives_of, commit_kind}

-- ---- fields

-- a number of this width, its highest byte first
unfoldable pub number_bytes : Width → ℕ → List ℕ
number_bytes w n = to_be_bytes w n

-- a ring: its number and its representative
unfoldable pub ring_bytes : RingName → List ℕ
ring_bytes c = number_bytes w32 c.seq ++ number_bytes w16 c.rep

-- a payload: its length and its bytes
unfoldable pub payload_bytes : List ℕ → List ℕ
payload_bytes payload = number_bytes w16 (length payload) ++ payload

-- a process that may be missing: 0 is none
abbrev pub number_or_zero : Option ℕ → ℕ
number_or_zero None = 0
number_or_zero (Some n) = n

-- numbers of one width, after their count
unfoldable pub list_bytes : Width → List ℕ → List ℕ
list_bytes w numbers = number_bytes w8 (length numbers) ++ flat_map (number_bytes w) numbers

-- ---- messages

-- the byte of a message: 0 agreed, 1 safe
abbrev pub app_kind : Service → ℕ
app_kind Agreed = 0
app_kind Safe = 1

-- the byte of a message of an older ring: 2 agreed, 3 safe
abbrev pub old_kind : Service → ℕ
old_kind Agreed = 2
old_kind Safe = 3

-- the body of a message, after its byte; 4 is a mark
unfoldable pub body_bytes : Body → List ℕ
body_bytes (App service payload) = number_bytes w8 (app_kind service) ++ payload_bytes payload
body_bytes (Old ring number sender service payload) =
    number_bytes w8 (old_kind service) ++ ring_bytes ring ++ number_bytes w32 number ++ number_bytes w16 sender ++ payload_bytes payload
body_bytes Mark = number_bytes w8 4

unfoldable pub message_bytes : message.Message → List ℕ
message_bytes m = ring_bytes m.ring ++ number_bytes w32 m.number ++ number_bytes w16 m.sender ++ body_bytes m.body

-- ---- tokens and joins

unfoldable pub token_bytes : token.Token → List ℕ
token_bytes t =
    ring_bytes t.ring ++ number_bytes w64 t.token_seq ++ number_bytes w32 t.seq ++ number_bytes w32 t.aru
    ++ number_bytes w16 (number_or_zero t.aru_id) ++ list_bytes w32 t.rtr

unfoldable pub join_bytes : Join → List ℕ
join_bytes j = number_bytes w16 j.sender ++ number_bytes w32 j.seq ++ list_bytes w16 j.processes ++ list_bytes w16 j.failed

-- ---- commit tokens

-- the life of a report, where reports carry lives
abbrev pub life_bytes : Lives → ℕ → List ℕ
life_bytes Untold life = []
life_bytes Told life = number_bytes w16 life

-- a report, after the byte that says whether there is one
unfoldable pub report_bytes : Lives → Option Report → List ℕ
report_bytes lives None = number_bytes w8 0
report_bytes lives (Some r) =
    number_bytes w8 1 ++ life_bytes lives r.life ++ ring_bytes r.ring ++ number_bytes w32 r.aru ++ number_bytes w32 r.delivered ++ list_bytes w16 r.obligation

unfoldable pub member_bytes : Lives → CommitMember → List ℕ
member_bytes lives m = number_bytes w16 m.proc ++ report_bytes lives m.report

-- the byte of a round
abbrev pub round_number : Round → ℕ
round_number First = 1
round_number Second = 2

unfoldable pub commit_bytes : Lives → CommitToken → List ℕ
commit_bytes lives t =
    ring_bytes t.ring ++ number_bytes w8 (round_number t.round) ++ number_bytes w8 (length t.members) ++ flat_map (member_bytes lives) t.members

-- ---- packets

-- a packet: its first byte and its fields
unfoldable pub packet_bytes : packet.Packet → List ℕ
packet_bytes (packets.Message m) = number_bytes w8 1 ++ message_bytes m
packet_bytes (packets.Token t) = number_bytes w8 2 ++ token_bytes t
packet_bytes (packets.Join j) = number_bytes w8 3 ++ join_bytes j
packet_bytes (packets.Commit t) = number_bytes w8 (commit_kind (lives_of t.members)) ++ commit_bytes (lives_of t.members) t
