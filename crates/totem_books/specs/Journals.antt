-- Receipts in the journal of a shared book (docs/PROTOCOL.md, "Books").
use Rattle.std.specs.Prelude.{◌≡◌, ◌<◌, ◌-◌, ℕ, List, [], ◌∷◌, ◌++◌, length, map, take, Some, slice_get, slice_index_or, All}
use Rattle.totem_books.specs.Calls.{Called, Receipt}
use Rattle.totem_core.specs.declared.input.Input.{Input}
use Rattle.totem_core.specs.Outcomes.{Outcome}
use Rattle.totem_core.specs.Replay.{Answer}
use Rattle.totem_books.specs.Seats.{SeatRecord}
use Rattle.totem_books.specs.Receipts.{FitRising, ShareNoPlace}
use Rattle.totem_books.specs.Replay.{Start}
use Rattle.totem_books.specs.History.{History, called, answer}

-- an entry: the mark of the seat that made the call, and the receipt
abbrev pub Entered : Type 0
Entered = ℕ × Receipt

-- the calls that these are the receipts of
abbrev pub calls_in : List Entered → List Called
calls_in entries = map (λ (e : Entered). called e.1.input e.1.reply) entries

-- the book with these calls
abbrev pub book_of : Start → List Called → History
book_of start calls = record { start = start; calls = calls }

-- `calls` begin with `those`
pub record BeginWith (calls those : List Called) : Type 0 where
  pub more : List Called
  pub is : calls ≡ those ++ more

-- the calls seen now begin with all that were seen before, and the last of them is of this input. Its answer is that of the node
-- after all the other calls
pub record IsAnswered (start : Start) (before after : List Called) (i : Input) (reply : Outcome Answer) : Type 0 where
  pub between : List Called
  pub is : after ≡ (before ++ between) ++ called i reply ∷ []
  pub answered : reply ≡ answer (book_of start (before ++ between)) i

-- the receipt of one more call follows all that was seen, at its place
pub record IsEntered (mark : ℕ) (before after : List Entered) (stub : Receipt) : Type 0 where
  pub between : List Entered
  pub is : after ≡ (before ++ between) ++ (mark, stub) ∷ []
  pub place : stub.at ≡ length after

-- each of these receipts is in the journal at its place, with this mark, and the places ascend from this one
abbrev pub AreEntered : ℕ → List Entered → ℕ → List Receipt → Type 0
AreEntered mark entries low [] = Unit {0}
AreEntered mark entries low (stub ∷ stubs) = (low < stub.at) × (slice_get entries (stub.at - 1) ≡ Some (mark, stub)) × AreEntered mark entries stub.at stubs

-- the receipts of the seat at this index fit the calls, which begin with those that it saw, and no receipt of an earlier seat has
-- the same place as one of them
pub record IsMet (calls : List Called) (seats : List SeatRecord) (at : ℕ) : Type 0 where
  pub fit : (d : SeatRecord) → FitRising calls 0 (slice_index_or seats at d).stubs
  pub seen : (d : SeatRecord) → BeginWith calls (slice_index_or seats at d).seen
  pub apart : (d : SeatRecord) → All (λ other. ShareNoPlace other.stubs (slice_index_or seats at d).stubs) (take at seats)
