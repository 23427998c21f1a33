use Rattle.std.proofs.Common.{◌≤◌, ◌-◌}
use Rattle.totem_audit.specs.Spans.{AreCut}
use Rattle.totem_audit.proofs.spans.spans.Given as goal

abbrev pub invariant-loop-from : goal.invariant-loop-from
invariant-loop-from l = AreCut 0 l.spans.items l.from × (l.from ≤ l.count)

abbrev pub decreases-loop-from : goal.decreases-loop-from
decreases-loop-from l = l.count - l.from
