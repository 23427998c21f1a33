use Rattle.totem_threads.proofs.Common.{arith, All-push, IsFirstBook}
use Rattle.std.proofs.lemmas.Grind.{common_steps}
use Rattle.totem_threads.proofs.run.joined.Goals as goal

pub loop-handle-preserved : goal.loop-handle-preserved
loop-handle-preserved g c =
    (grind (arith, common_steps), rw c.in_ok-push.ensures.items (All-push IsFirstBook c.loop-handle.books.items _ c.loop-handle.invariant.1 c.in_ok-join.ensures.1))
