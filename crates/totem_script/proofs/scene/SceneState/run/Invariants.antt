use Rattle.std.proofs.Common.{◌≡◌}
use Rattle.totem_script.specs.Scenes.{run_times}
use Rattle.totem_script.proofs.scene.SceneState.run.Given as goal

abbrev pub invariant-loop-left : goal.invariant-loop-left
invariant-loop-left l = run_times l.initial.left l.initial.self ≡ run_times l.left l.self

abbrev pub decreases-loop-left : goal.decreases-loop-left
decreases-loop-left l = l.left
