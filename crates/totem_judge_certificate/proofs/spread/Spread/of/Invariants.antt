use Rattle.totem_judge_certificate.specs.Spreads.{KnowsTo}
use Rattle.totem_judge_certificate.proofs.spread.Spread.of.Given as goal

abbrev pub invariant-loop-index : goal.invariant-loop-index
invariant-loop-index l = KnowsTo l.logs l.lines l.spread l.index 0
