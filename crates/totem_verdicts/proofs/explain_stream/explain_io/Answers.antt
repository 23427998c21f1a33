use Rattle.totem_evs.proofs.Common.{rules, err_from_is_err_and}
use Rattle.totem_audit.specs.Verdicts.{answer_of}
use Rattle.totem_verdicts.specs.declared.report.Form.TheVariants as forms
use Rattle.totem_verdicts.proofs.Reported.{audit_failed}
use Rattle.totem_verdicts.proofs.explain_stream.explain_io.Goals as goal

pub returns-in_err-write_explanation : goal.returns-in_err-write_explanation
returns-in_err-write_explanation g c =
    let p = err_from_is_err_and c.from_residual-in_err-write_explanation.result c.from_residual-in_err-write_explanation.ensures.1 in
    rw (p.1, p.2) (audit_failed forms.Whole _ _ _ _ c.in_ok-run.run' _ _ (search rules) c.in_err-write_explanation.ensures)

pub returns : goal.returns
returns g c = record {
  run = c.in_ok-run.run';
  whole = search rules;
  answer = answer_of c.in-Ok.verdict;
  written = c.in-Ok.ensures.answer;
  sound = c.in-Ok.ensures.sound;
  explained = c.in_ok-write_explanation.ensures;
  says = c.outcome.ensures;
}
