-- Which steps are refused, and with which fault: the first test that fails decides (docs/PROTOCOL.md, "The ring").
use Rattle.std.specs.Prelude.{ℕ, ◌+◌, ◌-◌, ◌^◌, ◌==◌, ◌&&◌, not, List, length, Bool, true, if◌then◌else◌, nat_le, nat_lt, Option, None, Some}
use Rattle.std.specs.List.{list_any}
use Rattle.std.specs.Map.{keys_of}
use Rattle.totem_packets.specs.declared.message.Message.{Message}
use Rattle.totem_packets.specs.declared.token.Token.{Token}
use Rattle.totem_packets.specs.Sets.{has}
use Rattle.totem_ring.specs.declared.fault.RingFault.{RingFault}
use Rattle.totem_ring.specs.declared.fault.RingFault.TheVariants.{OtherRing, Repeat, Range, Full}
use Rattle.totem_ring.specs.Rings.{Ring, Held, same_ring, holds, taker_of}

-- 16 bodies are waiting already
abbrev pub submit_refusal : Ring → Option RingFault
submit_refusal s = if nat_le 16 (length s.waiting) then Some Full else None

-- a message that is received or adopted
abbrev pub message_refusal : Ring → Message → Option RingFault
message_refusal s m =
    if not (same_ring m.ring s.ring) then Some OtherRing
    else if holds s.held m.number then Some Repeat
    else if not (has s.members m.sender) then Some Range
    else None

-- no process, or a member
abbrev pub is_none_or_member : List ℕ → Option ℕ → Bool
is_none_or_member members None = true
is_none_or_member members (Some p) = has members p

abbrev pub is_above : ℕ → List ℕ → Bool
is_above seq numbers = list_any (λ n. nat_lt seq n) numbers

abbrev pub holds_above : Held → ℕ → Bool
holds_above held seq = is_above seq (keys_of held)

-- the token's numbers are consistent with each other and with what is held, and aru_id is no process or a member
abbrev pub is_sound : Ring → Token → Bool
is_sound s t = nat_le t.aru t.seq && is_none_or_member s.members t.aru_id && not (is_above t.seq t.rtr) && not (holds_above s.held t.seq)

-- the numbers that a visit gives stay within their width
abbrev pub has_room : Ring → Token → Bool
has_room s t = nat_lt t.token_seq (2 ^ 64 - 1) && nat_lt (t.seq + length s.waiting) (2 ^ 32)

abbrev pub is_token_in_range : Ring → Token → Bool
is_token_in_range s t = (taker_of s.members t.token_seq == s.me) && is_sound s t && has_room s t

abbrev pub token_refusal : Ring → Token → Option RingFault
token_refusal s t =
    if not (same_ring t.ring s.ring) then Some OtherRing
    else if nat_le t.token_seq s.last then Some Repeat
    else if not (is_token_in_range s t) then Some Range
    else None
