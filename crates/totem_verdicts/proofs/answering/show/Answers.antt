use Rattle.std.proofs.Common.{refl}
use Rattle.totem_verdicts.specs.Endings.{shown, unmade, unshown}
use Rattle.totem_verdicts.proofs.answering.show.Goals as goal

pub returns-in-Ok : goal.returns-in-Ok
returns-in-Ok g c = shown c.in-Ok.ensures refl

pub returns-in-Err-Memory : goal.returns-in-Err-Memory
returns-in-Err-Memory g c = rw c.tell_fault.ensures.status (unmade (rw c.in-Err-Memory.field-0-is at c.in-Err-Memory.ensures) c.tell_fault.ensures.line)

pub returns-in-Err-Write : goal.returns-in-Err-Write
returns-in-Err-Write g c = rw c.tell_fault-in-Err-Write.ensures.status (unshown (rw c.in-Err-Write.field-0-is at c.in-Err-Write.ensures) c.tell_fault-in-Err-Write.ensures.line)
