use Rattle.std.proofs.Common.{◌≡◌, ◌+◌, ◌≤◌, length}
use Rattle.totem_script.specs.Simulation.{play}
use Rattle.totem_script.proofs.playing.play.Given as goal

abbrev pub invariant-lines : goal.invariant-lines
invariant-lines l = (play 2 l.initial.scene l.initial.lines ≡ play l.line l.scene l.lines) × (l.line + length l.lines ≤ 65539)

abbrev pub decreases-lines : goal.decreases-lines
decreases-lines l = length l.lines
