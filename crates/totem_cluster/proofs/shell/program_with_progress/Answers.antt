use Rattle.std.proofs.Common.{refl}
use Rattle.totem_cluster.specs.Endings.{asked, simulated, unsimulated, unfollowed, answered, played}
use Rattle.totem_cluster.proofs.shell.program_with_progress.Goals as goal

pub returns-in-Err : goal.returns-in-Err
returns-in-Err g c = answered _ _ refl c.answer.ensures

pub returns-in-Ok-Verdict : goal.returns-in-Ok-Verdict
returns-in-Ok-Verdict g c = asked _ _ c.judge_io.ensures

pub returns-in-Ok : goal.returns-in-Ok
returns-in-Ok g c = rw c.status.ensures (simulated _ c.in-Ok.ensures refl)

pub returns-in-Err-sim_io : goal.returns-in-Err-sim_io
returns-in-Err-sim_io g c = rw c.tell_fault.ensures.status (unsimulated _ c.in-Err-sim_io.ensures c.tell_fault.ensures.line)

pub returns-in-Ok-Run : goal.returns-in-Ok-Run
returns-in-Ok-Run g c = played _ refl c.play.ensures

pub returns-in-Ok-RunQuietly : goal.returns-in-Ok-RunQuietly
returns-in-Ok-RunQuietly g c = played _ refl c.play-in-Ok-RunQuietly.ensures

pub returns-in-Ok-follow_io : goal.returns-in-Ok-follow_io
returns-in-Ok-follow_io g c = rw c.status-in-Ok-follow_io.ensures (simulated _ c.in-Ok-follow_io.ensures refl)

pub returns-in-Err-follow_io : goal.returns-in-Err-follow_io
returns-in-Err-follow_io g c =
    unfollowed _ _ (record { line = c.in-Err-follow_io.unmade.line; is_unmade = c.in-Err-follow_io.ensures }) c.point_line.ensures
