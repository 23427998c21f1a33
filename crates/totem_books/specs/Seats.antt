-- A blank, a seat and a closed book in contracts (docs/PROTOCOL.md, "Books").
use Rattle.std.specs.Prelude.{ℕ, List}
use Rattle.totem_evs.specs.declared.entry.Entry.{Entry}
use Rattle.totem_books.specs.Calls.{Called, Receipt}
use Rattle.totem_books.specs.Replay.{Start}

-- the names of its ledger and its journal, and the number of parts of the ledger
pub record BlankRecord : Type 0 where
  pub name : ℕ
  pub parts : ℕ
  pub journal : ℕ

-- the receipts of its calls, its share of all calls, and which calls of the book it has seen
pub record SeatRecord : Type 0 where
  pub stubs : List Receipt
  pub share : ℕ
  pub seen : List Called

-- the node's start, all calls, and the log that they wrote
pub record Closed : Type 0 where
  pub start : Start
  pub calls : List Called
  pub log : List Entry
