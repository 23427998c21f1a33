-- A log as contracts see it: its process, its entries in order, and how it ends.
use Rattle.std.specs.Prelude.{ℕ, List}
use Rattle.totem_evs.specs.declared.entry.Entry.{Entry}
use Rattle.totem_evs.specs.declared.ending.Ending.{Ending}

pub record LogRecord : Type 0 where
  pub proc : ℕ
  pub entries : List Entry
  pub ending : Ending
