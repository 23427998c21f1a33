-- An input that a node took, and what a book stores of it (docs/PROTOCOL.md, "Books").
use Rattle.std.specs.Prelude.{◌≡◌, ℕ, List, [], ◌∷◌, ◌++◌}
use Rattle.totem_evs.specs.declared.entry.Entry.{Entry}
use Rattle.totem_core.specs.declared.input.Input.{Input}
use Rattle.totem_core.specs.Nodes.{Node}
use Rattle.totem_core.specs.Outcomes.{Outcome}
use Rattle.totem_core.specs.Replay.{Answer}
use Rattle.totem_core.specs.Table.{step}
use Rattle.totem_books.specs.Replies.{entries_of}
use Rattle.totem_books.specs.Calls.{Called, Receipt}
use Rattle.totem_books.specs.Replay.{answer_to, node_behind}
use Rattle.totem_books.specs.History.{called, receipt}

-- the node took the input, as the call at this place
pub record IsTaken (before : Node) (i : Input) (place : ℕ) (behind : Node) (stub : Receipt) (reply : Outcome Answer) : Type 0 where
  pub node : behind ≡ node_behind before (step before i)
  pub answer : reply ≡ answer_to (step before i)
  pub told : stub ≡ receipt place i reply

-- the call of this receipt was added to the calls, and its entries to the log
pub record IsAdded (calls more : List Called) (log written : List Entry) (stub : Receipt) : Type 0 where
  pub call : more ≡ calls ++ called stub.input stub.reply ∷ []
  pub entries : written ≡ log ++ entries_of stub.reply
