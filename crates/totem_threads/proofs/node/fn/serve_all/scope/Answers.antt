use Rattle.std.proofs.Common.{arith}
use Rattle.std.proofs.lemmas.Grind.{common_steps}
use Rattle.totem_threads.proofs.FirstLives.{three_first}
use Rattle.totem_threads.proofs.node.fn.serve_all.scope.Goals as goal

pub returns : goal.returns
returns g c = record {
  count = grind (arith, common_steps);
  first =
      rw (c.in_ok-push-3.ensures.items, c.in_ok-push-2.ensures.items, c.in_ok-push.ensures.items, c.in_ok-back.ensures.items)
      (three_first c.in_ok-join.field-0 c.in_ok-join-2.field-0 c.in_ok-join-3.field-0 c.in_ok-join.ensures c.in_ok-join-2.ensures c.in_ok-join-3.ensures);
}
