use Rattle.totem_cert.proofs.Common.{◌≤◌, length, map, CountsTo, empty_line}
use Rattle.totem_cert.proofs.counts.count_logs.Given as goal

abbrev pub invariant-loop-k : goal.invariant-loop-k
invariant-loop-k l = record {
  within : l.k ≤ length l.run.logs;
  counts : CountsTo l.run.logs l.table (map empty_line l.run.logs) l.counts l.k;
}
