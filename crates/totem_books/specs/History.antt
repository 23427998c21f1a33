-- A book in contracts (docs/PROTOCOL.md, "Books").
use Rattle.std.specs.Prelude.{◌≤◌, ◌⊎◌, ℕ, List, [], ◌∷◌, ◌++◌, length}
use Rattle.totem_names.specs.Names.{RingName}
use Rattle.totem_evs.specs.declared.entry.Entry.{Entry}
use Rattle.totem_core.specs.declared.input.Input.{Input}
use Rattle.totem_core.specs.Nodes.{Node}
use Rattle.totem_core.specs.Outcomes.{Outcome}
use Rattle.totem_core.specs.Table.{step}
use Rattle.totem_core.specs.Replay.{Answer}
use Rattle.totem_books.specs.Calls.{Called, Receipt}
use Rattle.totem_books.specs.Replay.{Start, replay, answer_to}

-- a node's start and its calls
pub record History : Type 0 where
  pub start : Start
  pub calls : List Called

abbrev pub start_with : ℕ → RingName → List ℕ → Start
start_with me ring members = record { me = me; ring = ring; members = members }

-- no call was made yet
abbrev pub begun : Start → History
begun start = record { start = start; calls = [] }

-- the entries that the calls wrote
abbrev pub log_of : History → List Entry
log_of h = (replay h.start h.calls).entries

-- the node after the calls
abbrev pub node_of : History → Node
node_of h = (replay h.start h.calls).node

-- the node's answer to one more input
abbrev pub answer : History → Input → Outcome Answer
answer h i = answer_to (step (node_of h) i)

abbrev pub called : Input → Outcome Answer → Called
called i reply = record { input = i; reply = reply }

abbrev pub receipt : ℕ → Input → Outcome Answer → Receipt
receipt at i reply = record { at = at; input = i; reply = reply }

abbrev pub followed_by : History → Called → History
followed_by h call = record { start = h.start; calls = h.calls ++ call ∷ [] }

-- no further call is stored
abbrev pub IsFull : History → Type 0
IsFull h = (1000000 ≤ length h.calls) ⊎ (1000000 ≤ length (log_of h))
