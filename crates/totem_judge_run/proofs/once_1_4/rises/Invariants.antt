use Rattle.totem_judge_run.proofs.Common.{◌≡◌, ◌<◌, ◌+◌, ℕ, get_or, MsgId, message_order}
use Rattle.std.specs.declared.cmp.Ordering.TheVariants.{Less}
use Rattle.totem_judge_run.proofs.once_1_4.rises.Given as goal

abbrev pub invariant-loop-at : goal.invariant-loop-at
invariant-loop-at l = (k : ℕ) (d : MsgId) → k + 1 < l.at → message_order (get_or l.list k d) (get_or l.list (k + 1) d) ≡ Less
