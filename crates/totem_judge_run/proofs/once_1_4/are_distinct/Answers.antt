use Rattle.totem_judge_run.proofs.Distinct.{distinct_if_sorted}
use Rattle.totem_judge_run.proofs.once_1_4.are_distinct.Goals as goal

pub returns : goal.returns
returns c = distinct_if_sorted _ _ _ c.in_ok-sort.ensures.permutation (rw c.deref-2.ensures.value at c.rises-2.ensures)
