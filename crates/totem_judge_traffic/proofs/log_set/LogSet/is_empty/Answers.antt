use Rattle.std.proofs.Common.{eqb-true, eq-eqb}
use Rattle.totem_judge_traffic.proofs.Sets.{none_is_empty, empty_is_none}
use Rattle.totem_judge_traffic.proofs.log_set.LogSet.is_empty.Goals as goal

pub returns : goal.returns
returns c = (λ h. none_is_empty c.args.self.bits (eqb-true c.args.self.bits 0 h), λ empty. eq-eqb c.args.self.bits 0 (empty_is_none c.args.self empty))
