use Rattle.totem_evs.proofs.Common.{rules, ap, err_from_is_err_and, RunRecord}
use Rattle.totem_audit.specs.Verdicts.{answer_of}
use Rattle.totem_verdicts.proofs.Reported.{audit_failed}
use Rattle.totem_verdicts.proofs.audit_stream.report_io.Goals as goal

pub returns-in_err-write_report : goal.returns-in_err-write_report
returns-in_err-write_report g c =
    let p = err_from_is_err_and c.from_residual-in_err-write_report.result c.from_residual-in_err-write_report.ensures.1 in
    rw (p.1, p.2) (audit_failed c.args.form _ _ _ _ c.in_ok-run.run' _ _ (search rules) c.in_err-write_report.ensures)

pub returns : goal.returns
returns g c = record {
  run = c.in_ok-run.run';
  whole = search rules;
  answer = answer_of c.in-Ok.verdict;
  written = c.in-Ok.ensures.answer;
  sound = c.in-Ok.ensures.sound;
  report = rw (ap (λ (r : RunRecord). r.version) c.run.view_is) at c.in_ok-write_report.ensures;
  says = c.outcome.ensures;
}
