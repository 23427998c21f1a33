use Rattle.totem_evs.proofs.Common.{refl, rules, ap, subst, [], err_from_is_err_and, Wrote, held, RunRecord}
use Rattle.totem_verdicts.specs.Report.{accepted_text}
use Rattle.totem_verdicts.proofs.Reported.{whole_pair, certificate_failed, report_failed}
use Rattle.totem_verdicts.proofs.check_stream.check_by.Goals as goal

pub returns-in_err-certificate : goal.returns-in_err-certificate
returns-in_err-certificate g c =
    let p = err_from_is_err_and c.from_residual-in_err-certificate.result c.from_residual-in_err-certificate.ensures.1 in
    rw (p.1, p.2) (certificate_failed _ _ _ _ c.in_ok-run.run' _ c.in_ok-run.ensures c.in_err-certificate.ensures)

pub returns-in_err-write_accepted-in-Ok : goal.returns-in_err-write_accepted-in-Ok
returns-in_err-write_accepted-in-Ok g c =
    let whole = whole_pair _ _ _ c.in_ok-run.run' _ c.in_ok-run.ensures c.in_ok-certificate.ensures in
    let p = err_from_is_err_and c.from_residual-in_err-write_accepted-in-Ok.result c.from_residual-in_err-write_accepted-in-Ok.ensures.1 in
    rw (p.1, p.2) (report_failed _ _ _ _ _ _ _ _ whole c.in_err-write_accepted-in-Ok.ensures)

pub returns-in-Ok : goal.returns-in-Ok
returns-in-Ok g c =
    let known = held g.W.Sink.contents g.W.Sink.failures [] in
    let accepted = c.in-Ok.accepted in
    let wrote = subst (λ (run : RunRecord). Wrote (known c.args.output.now) (known c.write_accepted.new.sink) (accepted_text run.version accepted.pending.items accepted.waiting.items)) c.run.view_is c.in_ok-write_accepted-in-Ok.ensures in
    record {
      run = c.in_ok-run.run';
      cert = c.in_ok-certificate.certificate;
      whole = whole_pair _ _ _ c.in_ok-run.run' _ c.in_ok-run.ensures c.in_ok-certificate.ensures;
      report = (c.in-Ok.ensures.answer.0, (accepted, c.in-Ok.ensures.answer.1, wrote));
    }

pub returns-in_err-write_no-in-Err-Broken : goal.returns-in_err-write_no-in-Err-Broken
returns-in_err-write_no-in-Err-Broken g c =
    let whole = whole_pair _ _ _ c.in_ok-run.run' _ c.in_ok-run.ensures c.in_ok-certificate.ensures in
    let p = err_from_is_err_and c.from_residual-in_err-write_no-in-Err-Broken.result c.from_residual-in_err-write_no-in-Err-Broken.ensures.1 in
    rw (p.1, p.2) (report_failed _ _ _ _ _ _ _ _ whole c.in_err-write_no-in-Err-Broken.ensures)

pub returns-in-Err-Broken : goal.returns-in-Err-Broken
returns-in-Err-Broken g c =
    let broken = rw c.in-Err-Broken.field-0-is at c.in-Err-Broken.ensures.answer in
    record {
      run = c.in_ok-run.run';
      cert = c.in_ok-certificate.certificate;
      whole = whole_pair _ _ _ c.in_ok-run.run' _ c.in_ok-run.ensures c.in_ok-certificate.ensures;
      report = (broken.0, (c.in-Err-Broken.fault, broken.1, rw (ap (λ (r : RunRecord). r.version) c.run.view_is) at c.in_ok-write_no-in-Err-Broken.ensures));
    }

pub returns : goal.returns
returns g c = (
  refl,
  record {
    run = c.in_ok-run.run';
    cert = c.in_ok-certificate.certificate;
    whole = whole_pair _ _ _ c.in_ok-run.run' _ c.in_ok-run.ensures c.in_ok-certificate.ensures;
    reason = c.in-Err.ensures.answer;
    of_certificate = search rules;
  },
)
