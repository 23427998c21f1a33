-- Why a book refuses a call, and why it isn't closed, by number and name (docs/PROTOCOL.md, "Books").
use Rattle.std.specs.Prelude.{ℕ, List, codes}
use Rattle.totem_books.specs.declared.book_fault.BookFault.{BookFault}
use Rattle.totem_books.specs.declared.book_fault.BookFault.TheVariants as book
use Rattle.totem_books.specs.declared.close_fault.CloseFault.{CloseFault}
use Rattle.totem_books.specs.declared.close_fault.CloseFault.TheVariants as closing

abbrev pub book_number : BookFault → ℕ
book_number book.Long = 1
book_number book.Memory = 2

abbrev pub book_name : BookFault → List ℕ
book_name book.Long = codes "Long"
book_name book.Memory = codes "Memory"

abbrev pub close_number : CloseFault → ℕ
close_number closing.SeatMissing = 1
close_number closing.ReceiptMismatch = 2
close_number closing.Memory = 3

abbrev pub close_name : CloseFault → List ℕ
close_name closing.SeatMissing = codes "SeatMissing"
close_name closing.ReceiptMismatch = codes "ReceiptMismatch"
close_name closing.Memory = codes "Memory"
