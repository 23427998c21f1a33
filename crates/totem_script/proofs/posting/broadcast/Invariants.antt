use Rattle.std.proofs.Common.{◌≡◌, ◌++◌, drop}
use Rattle.totem_script.specs.Scenes.{to_others}
use Rattle.totem_script.proofs.posting.broadcast.Given as goal

abbrev pub invariant-loop-actor : goal.invariant-loop-actor
invariant-loop-actor l = l.initial.queue.items ++ to_others l.cut l.from l.packet l.actors ≡ l.queue.items ++ to_others l.cut l.from l.packet (drop l.actor-index l.actors)
