use Rattle.totem_cert.specs.Counts.{Counts}
use Rattle.totem_cert.proofs.Giving.{GivenTo}
use Rattle.totem_cert.proofs.counted.give_heads.Given as goal

abbrev pub invariant-loop-k : goal.invariant-loop-k
invariant-loop-k l = record {
  given : GivenTo l.run.logs l.table l.initial.lines.items l.lines.items l.class l.number l.k;
  counts : Counts l.run.logs l.table l.lines.items l.counts;
}
