use Rattle.std.proofs.Common.{refl}
use Rattle.totem_verdicts.specs.Endings.{asked, answered, lacking}
use Rattle.totem_verdicts.proofs.alone.auditor.Goals as goal

pub returns-in-Err : goal.returns-in-Err
returns-in-Err g c = answered _ _ refl c.answer.ensures

pub returns-in-Ok-Verdict : goal.returns-in-Ok-Verdict
returns-in-Ok-Verdict g c = asked _ _ c.judge_io.ensures

pub returns-in-Ok : goal.returns-in-Ok
returns-in-Ok g c = lacking _ refl refl c.tell.ensures
