-- A book's refusals as faults of a run in threads (docs/PROTOCOL.md, "A run in threads").
use Rattle.std.specs.Prelude.{ℕ, List}
use Rattle.totem_books.specs.Faults.{book_number, book_name, close_number, close_name}
use Rattle.totem_books.specs.declared.book_fault.BookFault.{BookFault}
use Rattle.totem_books.specs.declared.book_fault.BookFault.TheVariants as book_faults
use Rattle.totem_books.specs.declared.close_fault.CloseFault.{CloseFault}
use Rattle.totem_books.specs.declared.close_fault.CloseFault.TheVariants as close_faults
use Rattle.totem_threads.specs.declared.fault.BookTrouble.{BookTrouble}
use Rattle.totem_threads.specs.declared.fault.BookTrouble.TheVariants as troubles
use Rattle.totem_threads.specs.declared.fault.ThreadsFault.{ThreadsFault}
use Rattle.totem_threads.specs.declared.fault.ThreadsFault.TheVariants as faults

abbrev pub trouble_number : BookTrouble → ℕ
trouble_number (troubles.Call fault) = book_number fault
trouble_number (troubles.Close fault) = close_number fault

abbrev pub trouble_name : BookTrouble → List ℕ
trouble_name (troubles.Call fault) = book_name fault
trouble_name (troubles.Close fault) = close_name fault

-- out of memory is reported as such
abbrev pub call_trouble : BookFault → ThreadsFault
call_trouble book_faults.Memory = faults.Memory
call_trouble fault = faults.Book (troubles.Call fault)

abbrev pub close_trouble : CloseFault → ThreadsFault
close_trouble close_faults.Memory = faults.Memory
close_trouble fault = faults.Book (troubles.Close fault)

-- a book is full, or its log is too long for a run; no other refusal of a book occurs
abbrev pub IsFullBook : BookTrouble → Type 0
IsFullBook (troubles.Call book_faults.Long) = Unit {0}
IsFullBook (troubles.Call book_faults.Memory) = ⊥
IsFullBook (troubles.Close fault) = ⊥

-- why there is no run: a book is full, memory was refused, or a thread could not be made
abbrev pub EndsRun : ThreadsFault → Type 0
EndsRun (faults.Book trouble) = IsFullBook trouble
EndsRun faults.Memory = Unit {0}
