use Rattle.totem_cluster.specs.Endings.{pointed, wordless}
use Rattle.totem_cluster.proofs.shell.point_line.Goals as goal

pub returns-in-Ok : goal.returns-in-Ok
returns-in-Ok g c = rw c.tell_with_words.ensures.status (pointed _ c.tell_with_words.ensures.line)

pub returns-in-Err : goal.returns-in-Err
returns-in-Err g c = rw c.tell_fault.ensures.status (wordless c.tell_fault.ensures.line)
