use Rattle.totem_walk.proofs.Finding.{HasNoneOf}
use Rattle.totem_walk.proofs.reading.entries_of.Given as goal

abbrev pub invariant-loop-log : goal.invariant-loop-log
invariant-loop-log l = HasNoneOf l.log-items l.proc l.log-index
