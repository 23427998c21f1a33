use Rattle.std.proofs.Common.{refl}
use Rattle.totem_cluster.specs.Endings.{woven, unwoven}
use Rattle.totem_cluster.proofs.shell.play_woven.Goals as goal

pub returns-in-Ok : goal.returns-in-Ok
returns-in-Ok g c = rw c.status.ensures (woven _ _ c.in-Ok.ensures refl)

pub returns-in-Err : goal.returns-in-Err
returns-in-Err g c = rw c.tell_fault.ensures.status (unwoven c.args.plan.nodes _ c.in-Err.ensures c.tell_fault.ensures.line)
