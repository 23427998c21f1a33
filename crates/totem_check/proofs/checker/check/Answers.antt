use Rattle.totem_outcome.proofs.Checking.{rightly}
use Rattle.totem_check.proofs.checker.check.Goals as goal

pub returns-clause-exact : goal.returns-clause-exact
returns-clause-exact c = rightly _ _ _ c.judged.ensures
