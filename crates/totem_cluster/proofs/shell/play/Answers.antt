use Rattle.std.proofs.Common.{refl}
use Rattle.totem_cluster.specs.Endings.{recorded, unrecorded, unfit}
use Rattle.totem_cluster.proofs.shell.play.Goals as goal

pub returns-in_default : goal.returns-in_default
returns-in_default g c = unfit _ refl c.tell.ensures

pub returns-in-Ok : goal.returns-in-Ok
returns-in-Ok g c = rw c.status.ensures (recorded _ _ c.in-Ok.ensures refl)

pub returns-in-Err : goal.returns-in-Err
returns-in-Err g c = rw c.tell_fault.ensures.status (unrecorded c.args.words.now.nodes _ c.in-Err.ensures c.tell_fault.ensures.line)
