-- The books of a run in threads, and the run that they make (docs/PROTOCOL.md, "A run in threads").
use Rattle.std.specs.Prelude.{◌≡◌, ℕ, List, map, All}
use Rattle.totem_evs.specs.LogRecord.{LogRecord}
use Rattle.totem_evs.specs.Lives.{AreLoud}
use Rattle.totem_books.specs.Seats.{Closed}
use Rattle.totem_books.specs.Replay.{IsRecorded}
use Rattle.totem_threads.specs.Starts.{starts}

-- each log has the process and the entries of its book, in order. None is quiet, so its entries determine how it ends
pub record AreLogsOf (books : List Closed) (logs : List LogRecord) : Type 0 where
  pub processes : map (λ (l : LogRecord). l.proc) logs ≡ map (λ (b : Closed). b.start.me) books
  pub entries : map (λ (l : LogRecord). l.entries) logs ≡ map (λ (b : Closed). b.log) books
  pub loud : AreLoud logs

-- the log and the replies are the replay of the calls from the start
abbrev pub IsReplayed : Closed → Type 0
IsReplayed b = IsRecorded b.start b.calls b.log

-- one book for each node, which starts on the first ring and is the replay of its calls; and the books' logs
pub record IsRunOf (nodes : ℕ) (books : List Closed) (logs : List LogRecord) : Type 0 where
  pub begun : map (λ (b : Closed). b.start) books ≡ starts nodes
  pub replayed : All IsReplayed books
  pub recorded : AreLogsOf books logs
