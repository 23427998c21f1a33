use Rattle.totem_judge_run.proofs.Common.{refl, ◌∙◌, ap, length, arith, slice_get_read, LogRecord}
use Rattle.totem_judge_run.proofs.ChangesMet.{entered, where_met}
use Rattle.totem_judge_run.proofs.changes_2_3.enter.Goals as goal

pub returns : goal.returns
returns c =
    let entries = c.as_slice-entries.ensures.value ∙ ap (λ (l : LogRecord). l.entries) c.log.view_is in
    let procs = ap (λ (l : LogRecord). l.proc) c.log.view_is in
    let at_entry = slice_get_read c.as_slice-entries.result.now _ c.args.at c.index-entries-at.result refl (omega (arith, c.requires.within, ap length entries)) c.index-entries-at.is in
    where_met c.meet.result _ _
    (entered _ _ c.args.at c.args.before c.args.log.now _ _ _ _ (rw entries at at_entry) c.in-Conf.is (rw procs at (c.if-not-contains.ensures.0 refl)) c.requires.last (rw entries at c.in-Some.ensures))
    c.meet.ensures
