use Rattle.totem_script.proofs.Common.{◌≡◌, take, concat}
use Rattle.totem_script.proofs.scene.cutting_off.all_of.Given as goal

abbrev pub invariant-loop-group : goal.invariant-loop-group
invariant-loop-group l = l.procs.items ≡ concat (take l.group-index l.groups)
