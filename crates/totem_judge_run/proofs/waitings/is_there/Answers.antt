use Rattle.std.proofs.Common.{arith}
use Rattle.totem_judge_run.proofs.Common.{sym, ◌∙◌, ap, slice_get_within, slice_get-get_or, LogRecord, RunRecord, log_of, log_of_at}
use Rattle.totem_judge_run.proofs.EndsTogether.{read_there}
use Rattle.totem_judge_run.proofs.WhoWaits.{no_log}
use Rattle.totem_judge_run.proofs.waitings.is_there.Goals as goal

pub returns-in_default : goal.returns-in_default
returns-in_default c = no_log _ _ _ c.in_default.ensures.none

pub ends_in-requires : goal.ends_in-requires
ends_in-requires c = grind (arith, read_there, slice_get_within, slice_get-get_or)

pub returns : goal.returns
returns c =
    let runs = ap (λ (r : RunRecord). r.logs) c.run.view_is in
    let there = read_there _ _ _ _ _ (c.as_slice.ensures.value ∙ runs) c.in-Some.ensures.found c.index-as_slice-k.is in
    let entries = ap (λ (l : LogRecord). l.entries) c.log.view_is in
    let here = c.as_slice-2.ensures.value ∙ entries ∙ sym (log_of_at c.args.run.now.logs _ _ (rw runs at c.as_slice.ensures.run.rising) there.0) in
    rw (here ∙ ap (λ p. log_of c.args.run.now.logs p) there.1) at c.ends_in.ensures
