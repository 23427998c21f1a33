use Rattle.std.proofs.lemmas.Result.{IfOk-weaker}
use Rattle.totem_plain.proofs.Unsettling.{are_waiting}
use Rattle.totem_plain.proofs.left_open.waiting.Goals as goal

pub returns : goal.returns
returns c = IfOk-weaker c.all_given.result _ _ (λ list h. are_waiting c.args.run.now.logs list.items h) c.all_given.ensures
