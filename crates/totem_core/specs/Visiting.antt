-- What a node does on its rings: messages, visits, and the finish (docs/PROTOCOL.md, "The node").
use Rattle.std.specs.Prelude.{ℕ, ◌+◌, List, [], ◌∷◌, ◌++◌, map, filter, if◌then◌else◌, nat_lt, nat_le, Option, None, Some, Result, Ok, Err, unwrap_or}
use Rattle.std.specs.List.{filter_map}
use Rattle.totem_names.specs.Names.{RingName}
use Rattle.totem_names.specs.declared.conf.ConfId.{ConfId}
use Rattle.totem_names.specs.declared.conf.ConfId.TheVariants.{Regular}
use Rattle.totem_packets.specs.declared.message.Body.{Body}
use Rattle.totem_packets.specs.declared.message.Body.TheVariants.{App, Old, Mark}
use Rattle.totem_packets.specs.declared.message.Message.{Message}
use Rattle.totem_packets.specs.declared.token.Token.{Token}
use Rattle.totem_evs.specs.declared.entry.Entry.{Entry}
use Rattle.totem_evs.specs.declared.entry.Entry.TheVariants.{Send}
use Rattle.totem_ring.specs.declared.fault.RingFault.{RingFault}
use Rattle.totem_ring.specs.declared.moves.Act.TheVariants.{Submit as DoesSubmit, Message as GetsMessage, Token as GetsToken, Resend as DoesResend}
use Rattle.totem_ring.specs.Rings.{Ring}
use Rattle.totem_ring.specs.Visits.{numbered}
use Rattle.totem_ring.specs.Steps.{Done, given, on_message, on_token, on_resend, adopt}
use Rattle.totem_recover.specs.Exchange.{Leaving, next_bodies, on_ring, is_done, last_mark}
use Rattle.totem_recover.specs.Finish.{deliveries, finish}
use Rattle.totem_core.specs.declared.ring_step.RingStep.{RingStep}
use Rattle.totem_core.specs.Nodes.{Node, Operational, InRecovery, Recovering, Stepped, Told, on_its_ring}
use Rattle.totem_names.specs.Sources.{◌>>=◌}
use Rattle.totem_core.specs.Outcomes.{Outcome, by_ring}

-- the send of a client's message in the configuration; carried old messages and marks write no entries
abbrev pub send_of : ConfId → RingName → ℕ → Body → Option Entry
send_of x ring number (App service payload) = Some (Send (record { ring = ring; number = number }) x service)
send_of x ring number (Old old n sender service payload) = None
send_of x ring number Mark = None

abbrev pub send : ConfId → Message → Option Entry
send x m = send_of x m.ring m.number m.body

abbrev pub sends : ConfId → List Message → List Entry
sends x ms = filter_map (send x) ms

-- the steps of the ring: each body is submitted, then the token is taken
abbrev pub submits : RingName → List Body → List RingStep
submits ring bodies = map (λ body. record { ring = ring; act = DoesSubmit body }) bodies

abbrev pub visit_steps : RingName → List Body → Token → List RingStep
visit_steps ring bodies t = submits ring bodies ++ record { ring = ring; act = GetsToken t } ∷ []

abbrev pub message_steps : RingName → Message → List RingStep
message_steps ring m = record { ring = ring; act = GetsMessage m } ∷ []

-- A message on its ring: what the ring delivers to the node is written as delivered.
abbrev pub message_told : Ring → Message → Outcome Told
message_told ring m = do
  done ← by_ring (on_message ring m)
  Ok (record {
    ring = done.state;
    packets = done.packets;
    entries = deliveries (Regular ring.ring) done.handed;
    ring_steps = message_steps ring.ring m;
  })

-- A message of the installed ring, in Operational and in Gather.
abbrev pub message_on_installed : Node → Message → Outcome Stepped
message_on_installed n m = on_its_ring (message_told n.installed m) (λ ring. record n { installed = ring })

-- the sends of the waiting bodies that a visit numbers
abbrev pub visit_sends : Ring → Token → List Entry
visit_sends ring t = sends (Regular ring.ring) (numbered ring t.seq ring.waiting)

-- what is reported of a visit for which bodies were given to the ring: sends, then deliveries
abbrev pub telling_visit : Ring → List Body → Token → Done → Told
telling_visit ring bodies t done = record {
  ring = done.state;
  packets = done.packets;
  entries = visit_sends (given ring bodies) t ++ deliveries (Regular ring.ring) done.handed;
  ring_steps = visit_steps ring.ring bodies t;
}

-- A visit for which these bodies are given to the ring.
abbrev pub visit_told : Ring → List Body → Token → Outcome Told
visit_told ring bodies t = do
  done ← by_ring (on_token (given ring bodies) t)
  Ok (telling_visit ring bodies t done)

-- A visit in Operational: the waiting messages are given to the ring before it.
abbrev pub visit_installed : Node → Token → Outcome Stepped
visit_installed n t = on_its_ring (visit_told n.installed n.waiting t) (λ ring. record n { installed = ring; waiting = []; quiet = 0 })

-- an old message that a message of the new ring carries
abbrev pub carried : Body → Option Message
carried (App service payload) = None
carried (Old ring number sender service payload) =
    Some (record { ring = ring; number = number; sender = sender; body = App service payload })
carried Mark = None

abbrev pub adopted_or_same : Ring → Result Done RingFault → Ring
adopted_or_same old (Ok done) = done.state
adopted_or_same old (Err fault) = old

-- the installed ring adopts the message, or ignores it
abbrev pub adopting : Ring → Option Message → Ring
adopting old None = old
adopting old (Some m) = adopted_or_same old (adopt old m)

-- the new ring is in this state, and the installed one may have adopted the message that this one carries
abbrev pub having_adopted : Node → Recovering → Message → Ring → Node
having_adopted n x m ring = record n { state = InRecovery (record x { ring = ring }); installed = adopting n.installed (carried m.body) }

-- A message of the new ring: if it carries an Old of the node's installed ring, that ring may adopt it.
abbrev pub message_on_new : Node → Recovering → Message → Outcome Stepped
message_on_new n x m = on_its_ring (message_told x.ring m) (having_adopted n x m)

-- the new ring is installed
abbrev pub installing : Node → Ring → Node
installing n ring = record n { state = Operational; installed = ring; obligation = []; filled = None }

-- the deliveries up to the last mark, the finish, and the deliveries after the mark
abbrev pub finishing_entries : Leaving → Ring → Ring → List Message → List Entry
finishing_entries r old ring handed =
    let last = unwrap_or (last_mark r ring) 0 in
    deliveries (Regular ring.ring) (filter (λ m. nat_le m.number last) handed)
    ++ finish r old
    ++ deliveries (Regular ring.ring) (filter (λ m. nat_lt last m.number) handed)

-- after a visit in Recovery: it continues, or every member's mark is delivered to the node and the new ring is installed
abbrev pub after_visit : Node → Recovering → Done → Leaving → Node
after_visit n x done r =
    if is_done r done.state then installing n done.state
    else record n { state = InRecovery (record x { ring = done.state; recovery = r }); obligation = r.obligation }

abbrev pub visit_entries : Leaving → Ring → Ring → List Message → List Entry
visit_entries r old ring handed =
    if is_done r ring then finishing_entries r old ring handed else deliveries (Regular ring.ring) handed

-- A visit in Recovery: before it, the new ring's waiting bodies are filled from the recovery's list.
abbrev pub visit_new : Node → Recovering → Token → Outcome Stepped
visit_new n x t = do
  done ← by_ring (on_token (given x.ring (next_bodies x.recovery)) t)
  Ok (record {
    node = after_visit (record n { quiet = 0 }) x done (on_ring x.recovery done.state done.packets);
    packets = done.packets;
    entries = visit_entries x.recovery n.installed done.state done.handed;
    ring_steps = visit_steps x.ring.ring (next_bodies x.recovery) t;
  })

abbrev pub resend_steps : RingName → List RingStep
resend_steps ring = record { ring = ring; act = DoesResend } ∷ []

-- The token that the ring passed on is sent again if it is kept.
abbrev pub resend : Node → Ring → Stepped
resend n ring = record {
  node = record n { quiet = n.quiet + 1 };
  packets = (on_resend ring).packets;
  entries = [];
  ring_steps = resend_steps ring.ring;
}
