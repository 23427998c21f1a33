-- The effect of a book's calls on a node: one step for each call (docs/PROTOCOL.md, "Books").
use Rattle.std.specs.Prelude.{◌≡◌, ℕ, List, map, Ok, Err}
use Rattle.totem_names.specs.Names.{RingName}
use Rattle.totem_evs.specs.declared.entry.Entry.{Entry}
use Rattle.totem_core.specs.Nodes.{Node, Stepped}
use Rattle.totem_core.specs.Outcomes.{Outcome}
use Rattle.totem_core.specs.Replay.{Answer, Life, replay as node_replay}
use Rattle.totem_books.specs.Calls.{Called}

-- a node's start: its process, its first ring and the ring's members
pub record Start : Type 0 where
  pub me : ℕ
  pub ring : RingName
  pub members : List ℕ

-- the replay of the calls' inputs, in their order
abbrev pub replay : Start → List Called → Life
replay start calls = node_replay start.me start.ring start.members (map (λ (call : Called). call.input) calls)

abbrev pub replies_of : List Called → List (Outcome Answer)
replies_of calls = map (λ (call : Called). call.reply) calls

-- the answer to a step
abbrev pub answer_to : Outcome Stepped → Outcome Answer
answer_to (Ok s) = Ok (record { packets = s.packets; entries = s.entries; ring_steps = s.ring_steps })
answer_to (Err fault) = Err fault

-- the node after a step; a refused step leaves it as it was
abbrev pub node_behind : Node → Outcome Stepped → Node
node_behind node (Ok s) = s.node
node_behind node (Err fault) = node

-- this node, this log and the stored replies are the replay of the stored inputs
pub record IsReplay (start : Start) (calls : List Called) (node : Node) (log : List Entry) : Type 0 where
  pub node_is : node ≡ (replay start calls).node
  pub log_is : log ≡ (replay start calls).entries
  pub replies_are : replies_of calls ≡ (replay start calls).replies

-- this log and the stored replies are the replay of the stored inputs
pub record IsRecorded (start : Start) (calls : List Called) (log : List Entry) : Type 0 where
  pub log_is : log ≡ (replay start calls).entries
  pub replies_are : replies_of calls ≡ (replay start calls).replies
