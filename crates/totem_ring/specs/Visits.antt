-- A token's visit, in six steps (docs/PROTOCOL.md, "The ring").
use Rattle.std.specs.Prelude.{ℕ, ◌+◌, ◌==◌, ◌||◌, not, List, [], ◌∷◌, ◌++◌, length, map, filter, Bool, true, if◌then◌else◌, nat_lt, min, max, Option, None, Some}
use Rattle.std.specs.List.{filter_map}
use Rattle.totem_ring.specs.Requests.{with_requests, numbers_above}
use Rattle.totem_packets.specs.declared.message.Body.{Body}
use Rattle.totem_packets.specs.declared.message.Message.{Message}
use Rattle.totem_packets.specs.declared.token.Token.{Token}
use Rattle.totem_packets.specs.declared.packet.Packet.{Packet}
use Rattle.totem_packets.specs.declared.packet.Packet.TheVariants.{Message as AMessage, Token as AToken}
use Rattle.totem_ring.specs.declared.outcome.To.{To}
use Rattle.totem_ring.specs.declared.outcome.To.TheVariants.{All as ToAll, One as ToOne}
use Rattle.totem_ring.specs.Rings.{Ring, Held, message_at, holds, with_messages, aru_of, handed_up, after_hand_up, next_of}

-- a packet and its receivers
abbrev pub Sending : Type 0
Sending = To × Packet

-- a visit under way: the member's state, the token's fields, what was sent and what was delivered to the node
pub record Visit : Type 0 where
  pub state : Ring
  pub token_seq : ℕ
  pub seq : ℕ
  pub aru : ℕ
  pub aru_id : Option ℕ
  pub rtr : List ℕ
  pub packets : List Sending
  pub handed : List Message

-- the token has arrived
abbrev pub arrival : Ring → Token → Visit
arrival s t = record {
  state = s;
  token_seq = t.token_seq;
  seq = t.seq;
  aru = t.aru;
  aru_id = t.aru_id;
  rtr = t.rtr;
  packets = [];
  handed = [];
}

abbrev pub broadcasts : List Message → List Sending
broadcasts ms = map (λ m. (ToAll, AMessage m)) ms

-- 1. The held messages that rtr asks for are broadcast in ascending order and removed from rtr.
abbrev pub answer_requests : Visit → Visit
answer_requests v = record v {
  packets = v.packets ++ broadcasts (filter_map (message_at v.state.held) v.rtr);
  rtr = filter (λ n. not (holds v.state.held n)) v.rtr;
}

-- the bodies as messages of this member, numbered from seq + 1
abbrev pub numbered : Ring → ℕ → List Body → List Message
numbered s seq [] = []
numbered s seq (body ∷ bodies) =
    record { ring = s.ring; number = seq + 1; sender = s.me; body = body } ∷ numbered s (seq + 1) bodies

-- 2. The waiting bodies are numbered from seq + 1, held and broadcast; seq grows by their count.
abbrev pub number_waiting : Visit → Visit
number_waiting v =
    let new = numbered v.state v.seq v.state.waiting in
    record v {
      state = record v.state { held = with_messages v.state.held new; waiting = [] };
      seq = v.seq + length v.state.waiting;
      packets = v.packets ++ broadcasts new;
    }

-- no process holds the aru down, or this member does
abbrev pub is_free_for : ℕ → Option ℕ → Bool
is_free_for me None = true
is_free_for me (Some p) = p == me

-- a member sets the aru to its own if it holds less or the aru is free for it; aru_id is then none if that is seq, else the member
abbrev pub sets_aru : ℕ → ℕ → ℕ → Option ℕ → Bool
sets_aru me my_aru aru aru_id = nat_lt my_aru aru || is_free_for me aru_id

abbrev pub aru_set : ℕ → ℕ → ℕ → ℕ → Option ℕ → ℕ × Option ℕ
aru_set me my_aru seq aru aru_id =
    (if sets_aru me my_aru aru aru_id then my_aru else aru, if sets_aru me my_aru aru aru_id then (if my_aru == seq then None else Some me) else aru_id)

-- 3. A member that sets the aru sets aru and aru_id.
abbrev pub set_aru : Visit → Visit
set_aru v =
    let set = aru_set v.state.me (aru_of v.state.held) v.seq v.aru v.aru_id in
    record v { aru = set.0; aru_id = set.1 }

-- the numbers up to seq that aren't held
abbrev pub missing : Held → ℕ → List ℕ
missing held seq = filter (λ n. not (holds held n)) (numbers_above 0 seq)

-- 4. The numbers up to seq that aren't held are added to rtr, the least first, until it has 64.
abbrev pub request_missing : Visit → Visit
request_missing v = record v { rtr = with_requests v.rtr (missing v.state.held v.seq) }

-- 5. safe_to rises to the lesser of the last two arus that left from here, and messages are delivered to the node.
abbrev pub hand_up_safe : Visit → Visit
hand_up_safe v =
    let safer = record v.state { safe_to = max v.state.safe_to (min v.state.sent_aru v.aru); sent_aru = v.aru } in
    record v { state = after_hand_up safer; handed = v.handed ++ handed_up safer }

-- the token as it leaves
abbrev pub leaving : Visit → Token
leaving v = record {
  ring = v.state.ring;
  token_seq = v.token_seq + 1;
  seq = v.seq;
  aru = v.aru;
  aru_id = v.aru_id;
  rtr = v.rtr;
}

-- 6. The token leaves for the next member, with its token_seq raised by one, and is kept.
abbrev pub pass_on : Visit → Visit
pass_on v = record v {
  state = record v.state { last = v.token_seq; kept = Some (leaving v) };
  packets = v.packets ++ (ToOne (next_of v.state), AToken (leaving v)) ∷ [];
}

abbrev pub visit : Ring → Token → Visit
visit s t = pass_on (hand_up_safe (request_missing (set_aru (number_waiting (answer_requests (arrival s t))))))
