use Rattle.std.proofs.lemmas.Grind.{merely}
use Rattle.totem_pass_ab.proofs.Sent.{in_order}
use Rattle.totem_pass_ab.proofs.unsent_1_3.find.Goals as goal

pub invariant_of-find_unsent-clause-sent : goal.invariant_of-find_unsent-clause-sent
invariant_of-find_unsent-clause-sent c = merely (in_order _ _ _ c.in_ok-sort.ensures.permutation c.in_ok-enter_run.ensures.sound)
