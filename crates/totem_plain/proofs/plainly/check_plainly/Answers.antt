use Rattle.totem_outcome.proofs.Checking.{rightly}
use Rattle.totem_plain.proofs.Judging.{refused}
use Rattle.totem_plain.proofs.plainly.check_plainly.Goals as goal

pub returns-in_err-certified-clause-answer : goal.returns-in_err-certified-clause-answer
returns-in_err-certified-clause-answer c = refused _ _ c.in_err-certified.field-0.0 c.from_residual.result c.from_residual.ensures.1 c.in_err-certified.ensures

pub returns-in_err-certified-clause-exact : goal.returns-in_err-certified-clause-exact
returns-in_err-certified-clause-exact c = rightly _ _ _ (returns-in_err-certified-clause-answer c)

pub returns-clause-exact : goal.returns-clause-exact
returns-clause-exact c = rightly _ _ _ c.judged.ensures
