use Rattle.totem_recover.proofs.Common.{◌≡◌, mark_of}
use Rattle.totem_recover.proofs.marks.mark_of.Given as goal

abbrev pub invariant-loop-number : goal.invariant-loop-number
invariant-loop-number l = mark_of l.held.entries l.proc ≡ mark_of l.number-iterator l.proc
