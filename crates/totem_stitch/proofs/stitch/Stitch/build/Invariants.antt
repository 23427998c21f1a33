use Rattle.totem_stitch.proofs.Tabled.{KnowsLogs}
use Rattle.totem_stitch.proofs.stitch.Stitch.build.Given as goal

abbrev pub invariant-loop-log : goal.invariant-loop-log
invariant-loop-log l = KnowsLogs l.tables l.log-items l.log-index
