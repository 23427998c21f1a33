use Rattle.std.proofs.Common.{◌≡◌, length}
use Rattle.totem_script.specs.Commands.{processes_from, some_processes}
use Rattle.totem_script.proofs.cutting.processes.Given as goal

abbrev pub invariant-loop-word : goal.invariant-loop-word
invariant-loop-word l = some_processes l.fn.words ≡ processes_from l.list l.words

abbrev pub decreases-loop-word : goal.decreases-loop-word
decreases-loop-word l = length l.words
