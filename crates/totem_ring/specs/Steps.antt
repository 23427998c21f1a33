-- The steps of one member on its ring (docs/PROTOCOL.md, "The ring").
use Rattle.std.specs.Prelude.{ℕ, List, [], ◌∷◌, ◌++◌, if◌then◌else◌, nat_lt, Option, None, Some, Result, Ok, Err}
use Rattle.totem_packets.specs.declared.message.Body.{Body}
use Rattle.totem_packets.specs.declared.message.Message.{Message}
use Rattle.totem_packets.specs.declared.token.Token.{Token}
use Rattle.totem_packets.specs.declared.packet.Packet.TheVariants.{Token as AToken}
use Rattle.totem_ring.specs.declared.outcome.To.TheVariants.{One as ToOne}
use Rattle.totem_ring.specs.declared.fault.RingFault.{RingFault}
use Rattle.totem_ring.specs.declared.moves.Act.{Act}
use Rattle.totem_ring.specs.declared.moves.Act.TheVariants.{Submit as DoesSubmit, Message as GetsMessage, Token as GetsToken, Resend as DoesResend}
use Rattle.totem_ring.specs.Rings.{Ring, with_message, next_of, handed_up, after_hand_up}
use Rattle.totem_ring.specs.Refusals.{submit_refusal, message_refusal, token_refusal}
use Rattle.totem_ring.specs.Visits.{Sending, visit}

-- the result of a step: the state after it, what was sent and what was delivered to the node
pub record Done : Type 0 where
  pub state : Ring
  pub packets : List Sending
  pub handed : List Message

-- the result of a step that isn't refused
abbrev pub unless_refused : Option RingFault → Done → Result Done RingFault
unless_refused (Some fault) done = Err fault
unless_refused None done = Ok done

-- these bodies wait for the next visit too
abbrev pub given : Ring → List Body → Ring
given s bodies = record s { waiting = s.waiting ++ bodies }

-- The body waits for the next visit.
abbrev pub after_submit : Ring → Body → Done
after_submit s body = record { state = record s { waiting = s.waiting ++ body ∷ [] }; packets = []; handed = [] }

abbrev pub submit : Ring → Body → Result Done RingFault
submit s body = unless_refused (submit_refusal s) (after_submit s body)

-- a message above the seq of the token passed on shows that this token arrived
abbrev pub kept_after : Option Token → ℕ → Option Token
kept_after None n = None
kept_after (Some t) n = if nat_lt t.seq n then None else Some t

abbrev pub holding : Ring → Message → Ring
holding s m = record s { held = with_message s.held m }

-- The message is held, the token passed on may be forgotten, and messages are delivered to the node.
abbrev pub after_message : Ring → Message → Done
after_message s m =
    let now = record (holding s m) { kept = kept_after s.kept m.number } in
    record { state = after_hand_up now; packets = []; handed = handed_up now }

abbrev pub on_message : Ring → Message → Result Done RingFault
on_message s m = unless_refused (message_refusal s m) (after_message s m)

-- The visit.
abbrev pub after_token : Ring → Token → Done
after_token s t = let v = visit s t in record { state = v.state; packets = v.packets; handed = v.handed }

abbrev pub on_token : Ring → Token → Result Done RingFault
on_token s t = unless_refused (token_refusal s t) (after_token s t)

abbrev pub resent : Ring → Option Token → List Sending
resent s None = []
resent s (Some t) = (ToOne (next_of s), AToken t) ∷ []

abbrev pub on_resend : Ring → Done
on_resend s = record { state = s; packets = resent s s.kept; handed = [] }

-- The message is held, and nothing is delivered to the node.
abbrev pub adopt : Ring → Message → Result Done RingFault
adopt s m = unless_refused (message_refusal s m) (record { state = holding s m; packets = []; handed = [] })

abbrev pub act_on : Ring → Act → Result Done RingFault
act_on s (DoesSubmit body) = submit s body
act_on s (GetsMessage m) = on_message s m
act_on s (GetsToken t) = on_token s t
act_on s DoesResend = Ok (on_resend s)
