use Rattle.totem_judge_certificate.specs.Spreads.{KnowsTo}
use Rattle.totem_judge_certificate.proofs.spread.Spread.enter_log.Given as goal

abbrev pub invariant-loop-at : goal.invariant-loop-at
invariant-loop-at l = KnowsTo l.logs l.lines l.self l.index l.at
