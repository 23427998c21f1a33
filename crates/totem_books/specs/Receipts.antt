-- Whether receipts are those of a list of calls (docs/PROTOCOL.md, "Books").
use Rattle.std.specs.Prelude.{◌≡◌, ◌<◌, ◌≤◌, ◌+◌, ◌-◌, ◌==◌, ℕ, List, [], ◌∷◌, length, Some, slice_get, count_by, sum_by, All}
use Rattle.totem_books.specs.Calls.{Called, Receipt}
use Rattle.totem_books.specs.Seats.{SeatRecord}

-- the call at the receipt's place has its input and its reply
abbrev pub Fits : List Called → Receipt → Type 0
Fits calls stub = (0 < stub.at) × (slice_get calls (stub.at - 1) ≡ Some (record { input = stub.input; reply = stub.reply }))

-- the receipts fit the calls, and their places ascend from this one
abbrev pub FitRising : List Called → ℕ → List Receipt → Type 0
FitRising calls low [] = Unit {0}
FitRising calls low (stub ∷ stubs) = (low < stub.at) × Fits calls stub × FitRising calls stub.at stubs

-- the number of these receipts that have this place
abbrev pub count_at : ℕ → List Receipt → ℕ
count_at place stubs = count_by (λ (stub : Receipt). stub.at == place) stubs

-- the number of receipts of all seats that have this place
abbrev pub count_in : ℕ → List SeatRecord → ℕ
count_in place seats = sum_by (λ (seat : SeatRecord). count_at place seat.stubs) seats

-- the number of receipts of all seats
abbrev pub receipts_in : List SeatRecord → ℕ
receipts_in seats = sum_by (λ (seat : SeatRecord). length seat.stubs) seats

-- the sum of all seats' shares
abbrev pub shares_in : List SeatRecord → ℕ
shares_in seats = sum_by (λ (seat : SeatRecord). seat.share) seats

-- no place has receipts in both lists
pub record ShareNoPlace (these those : List Receipt) : Type 0 where
  pub none : (place : ℕ) → 0 < count_at place these → count_at place those ≡ 0

-- each seat's receipts fit the calls at ascending places, and no two receipts have the same place
pub record Agree (calls : List Called) (seats : List SeatRecord) : Type 0 where
  pub each : All (λ seat. FitRising calls 0 seat.stubs) seats
  pub apart : (k : ℕ) → k < length calls → count_in (k + 1) seats ≤ 1

-- each place belongs to one receipt of one seat
pub record Covers (calls : List Called) (seats : List SeatRecord) : Type 0 where
  pub one : (k : ℕ) → k < length calls → count_in (k + 1) seats ≡ 1
