use Rattle.totem_cert.proofs.Common.{IsNumberedSoFar, entries_left, Counts}
use Rattle.totem_cert.proofs.counted.number_by_counts.Given as goal

abbrev pub invariant-loop-k : goal.invariant-loop-k
invariant-loop-k l = record {
  so_far : IsNumberedSoFar l.run.logs l.lines.items l.number;
  counts : Counts l.run.logs l.table l.lines.items l.counts.items;
}

abbrev pub decreases-loop-k : goal.decreases-loop-k
decreases-loop-k l = entries_left l.run.logs l.lines.items
