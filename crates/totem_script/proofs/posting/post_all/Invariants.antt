use Rattle.std.proofs.Common.{◌≡◌, ◌++◌}
use Rattle.totem_script.specs.Scenes.{posted_all}
use Rattle.totem_script.proofs.posting.post_all.Given as goal

abbrev pub invariant-loop-sending : goal.invariant-loop-sending
invariant-loop-sending l = l.queue.items ≡ l.initial.queue.items ++ posted_all l.cut l.actors l.from l.yielded
