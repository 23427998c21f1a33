use Rattle.std.proofs.lemmas.Result.{IfOk-weaker}
use Rattle.totem_plain.proofs.Unsettling.{are_pending}
use Rattle.totem_plain.proofs.left_open.pending.Goals as goal

pub returns : goal.returns
returns c = IfOk-weaker c.all_given.result _ _ (λ list h. are_pending c.args.run.now.logs list.items h) c.all_given.ensures
