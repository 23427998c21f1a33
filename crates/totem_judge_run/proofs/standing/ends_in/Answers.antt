use Rattle.totem_judge_run.proofs.Ending.{ends_not, end_nowhere}
use Rattle.totem_judge_run.proofs.standing.ends_in.Goals as goal

pub returns-in-None : goal.returns-in-None
returns-in-None c = ends_not _ _ (end_nowhere _ _ c.in-None.is c.requires)
