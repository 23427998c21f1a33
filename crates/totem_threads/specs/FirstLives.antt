-- Where no life but the first is named in a run in threads (docs/PROTOCOL.md, "A run in threads").
use Rattle.std.specs.Prelude.{⊤, All}
use Rattle.totem_core.specs.FirstLives.{IsFirstInput, IsFirstEntry}
use Rattle.totem_books.specs.Seats.{SeatRecord, Closed}
use Rattle.totem_threads.specs.declared.task.Task.{Task}
use Rattle.totem_threads.specs.declared.task.Task.TheVariants as tasks

-- what a thread gives its node
abbrev pub IsFirstTask : Task → Type 0
IsFirstTask (tasks.Input i) = IsFirstInput i
IsFirstTask tasks.Nothing = ⊤
IsFirstTask tasks.Stop = ⊤

-- what a thread has given its node
abbrev pub IsFirstSeat : SeatRecord → Type 0
IsFirstSeat seat = All (λ stub. IsFirstInput stub.input) seat.stubs

-- what a node has written
abbrev pub IsFirstBook : Closed → Type 0
IsFirstBook book = All IsFirstEntry book.log
