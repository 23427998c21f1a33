use Rattle.std.proofs.Common.{arith}
use Rattle.totem_judge_run.proofs.Common.{◌∙◌, ap, slice_get_within, slice_get-get_or, RunRecord}
use Rattle.totem_judge_run.proofs.EndsTogether.{read_there, shared}
use Rattle.totem_judge_run.proofs.ends_2_1.shares_end.Goals as goal

pub shares-requires : goal.shares-requires
shares-requires c = grind (arith, read_there, slice_get_within, slice_get-get_or)

pub returns-in-Some : goal.returns-in-Some
returns-in-Some c =
    let runs = ap (λ (r : RunRecord). r.logs) c.run.view_is in
    let there = read_there _ _ _ _ _ (c.as_slice.ensures.value ∙ runs) c.in-Some.ensures.found c.index-as_slice-k.is in
    shared c.args.run.now.logs _ _ _ _ _ (rw runs at c.as_slice.ensures.run.rising) there.0 there.1 c.shares.ensures
