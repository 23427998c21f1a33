-- How a visit ends once its own messages are held (docs/PROTOCOL.md, "The ring").
use Rattle.std.specs.Prelude.{◌≡◌, ℕ, ◌+◌, ◌^◌, ◌<◌, List, [], ◌∷◌, ◌++◌, length, filter, not, min, max}
use Rattle.std.specs.List.{filter_map}
use Rattle.totem_packets.specs.declared.message.Message.{Message}
use Rattle.totem_packets.specs.declared.token.Token.{Token}
use Rattle.totem_packets.specs.declared.packet.Packet.TheVariants.{Token as AToken}
use Rattle.totem_packets.specs.Rising.{IsRequests}
use Rattle.totem_ring.specs.declared.outcome.To.TheVariants.{One as ToOne}
use Rattle.totem_ring.specs.declared.departure.Departure.{Departure}
use Rattle.totem_ring.specs.declared.requests.Answered.{Answered}
use Rattle.totem_ring.specs.Requests.{with_requests}
use Rattle.totem_ring.specs.Rings.{Ring, Held, message_at, holds, aru_of, going_up, next_of}
use Rattle.totem_ring.specs.Visits.{broadcasts, aru_set, missing}

-- the requested messages that are held, and the requested numbers that are not
pub record IsAnswered (held : Held) (numbers : List ℕ) (answered : Answered) : Type 0 where
  pub messages : answered.messages.items ≡ filter_map (message_at held) numbers
  pub rtr : answered.rtr.items ≡ filter (λ n. not (holds held n)) numbers
  pub rules : IsRequests answered.rtr.items

-- the token as it leaves, if seq is the last number given
abbrev pub token_left : Ring → Token → ℕ → List ℕ → Token
token_left s t seq rtr = record {
  ring = s.ring;
  token_seq = t.token_seq + 1;
  seq = seq;
  aru = (aru_set s.me (aru_of s.held) seq t.aru t.aru_id).0;
  aru_id = (aru_set s.me (aru_of s.held) seq t.aru t.aru_id).1;
  rtr = with_requests rtr (missing s.held seq);
}

-- the token that leaves, and up to which number safe messages may be delivered to the node
pub record IsDeparture (s : Ring) (t : Token) (answered : Answered) (own : List Message) (d : Departure) : Type 0 where
  pub leaving : d.leaving ≡ token_left s t (t.seq + length own) answered.rtr.items
  pub safe_to : d.safe_to ≡ max s.safe_to (min s.sent_aru d.leaving.aru)
  pub packets : d.packets.items ≡ (broadcasts answered.messages.items ++ broadcasts own) ++ (ToOne (next_of s), AToken d.leaving) ∷ []
  pub handed : d.handed.items ≡ going_up s.handed d.safe_to s.held
  pub fits : s.handed + length d.handed.items < 2 ^ 32
