use Rattle.std.proofs.Common.{◌≡◌, length, []}
use Rattle.totem_script.specs.Commands.{groups_from}
use Rattle.totem_script.proofs.cutting.groups.Given as goal

abbrev pub invariant-loop-word : goal.invariant-loop-word
invariant-loop-word l = groups_from [] [] l.fn.words ≡ groups_from l.groups l.group l.words

abbrev pub decreases-loop-word : goal.decreases-loop-word
decreases-loop-word l = length l.words
