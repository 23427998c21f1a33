-- A node adopts only after its last step on that ring (docs/PROTOCOL.md, "The woven ring").
use Rattle.std.specs.Prelude.{◌≡◌, ◌≢◌, ℕ, List, ◌∷◌, ◌++◌, length, drop, All, IfOk, Some}
use Rattle.totem_names.specs.Names.{RingName}
use Rattle.totem_evs.specs.declared.entry.Entry.{Entry}
use Rattle.totem_packets.specs.declared.message.Message.{Message}
use Rattle.totem_packets.specs.declared.packet.Packet.TheVariants.{Message as AMessage}
use Rattle.totem_core.specs.declared.input.Input.{Input}
use Rattle.totem_core.specs.declared.input.Input.TheVariants.{Packet as APacket}
use Rattle.totem_core.specs.declared.state.Recovering.{Recovering}
use Rattle.totem_core.specs.declared.state.State.TheVariants.{InRecovery}
use Rattle.totem_core.specs.Nodes.{Node}
use Rattle.totem_core.specs.Outcomes.{Outcome}
use Rattle.totem_core.specs.Visiting.{carried}
use Rattle.totem_core.specs.Replay.{Answer, replay}
use Rattle.totem_books.specs.Calls.{Called}
use Rattle.totem_books.specs.Replay.{Start, replies_of, IsRecorded, replay as book_replay}

-- at this input the node adopts this message or ignores it: it recovers, and the input is a message that carries this one, of
-- its installed ring
pub record Adopts (n : Node) (i : Input) (adopted : Message) : Type 0 where
  pub recovering : Recovering
  pub recovers : n.state ≡ InRecovery recovering
  pub outer : Message
  pub comes : i ≡ APacket (AMessage outer)
  pub carries : carried outer.body ≡ Some adopted
  pub of_installed : adopted.ring ≡ n.installed.ring

-- the reply reports no step on this ring
abbrev pub TellsNoStepOn : RingName → Outcome Answer → Type 0
TellsNoStepOn ring reply = IfOk reply (λ answer. All (λ step. step.ring ≢ ring) answer.ring_steps)

-- the replies of a node to further inputs, after it has taken some inputs
abbrev pub replies_after : ℕ → RingName → List ℕ → List Input → List Input → List (Outcome Answer)
replies_after me ring members before inputs = drop (length before) (replay me ring members (before ++ inputs)).replies

-- From the input on at which a node adopts a message, that input included, no reply reports a step on the message's ring,
-- whatever the inputs are.
abbrev pub OnlyAdoptsLast : Type 0
OnlyAdoptsLast = (me : ℕ) (ring : RingName) (members : List ℕ) (before more : List Input) (i : Input) (adopted : Message)
    → Adopts (replay me ring members before).node i adopted
    → All (TellsNoStepOn adopted.ring) (replies_after me ring members before (i ∷ more))

-- The same of a closed book: from the call on at which its node adopts a message, that call included, no reply that the book
-- stores reports a step on the message's ring.
abbrev pub BooksAdoptLast : Type 0
BooksAdoptLast = (start : Start) (before more : List Called) (call : Called) (log : List Entry) (adopted : Message)
    → IsRecorded start (before ++ call ∷ more) log
    → Adopts (book_replay start before).node call.input adopted
    → All (TellsNoStepOn adopted.ring) (replies_of (call ∷ more))
