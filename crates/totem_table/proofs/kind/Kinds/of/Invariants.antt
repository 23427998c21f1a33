use Rattle.totem_table.proofs.Common.{◌≡◌, take, map, kind_of}
use Rattle.totem_table.proofs.kind.Kinds.of.Given as goal

abbrev pub invariant-loop-entry : goal.invariant-loop-entry
invariant-loop-entry l = l.list.items ≡ map kind_of (take l.entry-index l.entries)
