use Rattle.totem_judge_traffic.proofs.Sets.{none_is_empty}
use Rattle.totem_judge_traffic.proofs.log_set.LogSet.least.Goals as goal

pub returns-then-self-eq0-clause-none : goal.returns-then-self-eq0-clause-none
returns-then-self-eq0-clause-none c = none_is_empty c.args.self.bits c.if-self-eq0.true
