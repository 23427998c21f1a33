use Rattle.totem_verdicts.specs.Endings.{pointed, wordless}
use Rattle.totem_verdicts.proofs.judging.point.Goals as goal

pub returns-in-Ok : goal.returns-in-Ok
returns-in-Ok g c = rw c.tell_with_words.ensures.status (pointed _ c.tell_with_words.ensures.line)

pub returns-in-Err : goal.returns-in-Err
returns-in-Err g c = rw c.tell_fault.ensures.status (wordless c.tell_fault.ensures.line)
