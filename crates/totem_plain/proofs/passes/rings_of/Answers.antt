use Rattle.std.proofs.lemmas.Result.{IfOk-weaker}
use Rattle.totem_plain.proofs.Unsettling.{are_rings}
use Rattle.totem_plain.proofs.passes.rings_of.Goals as goal

pub returns : goal.returns
returns c = IfOk-weaker c.all_given.result _ _ (λ list h. are_rings c.args.run.now.logs list.items h) c.all_given.ensures
