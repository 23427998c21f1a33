use Rattle.std.proofs.lemmas.Result.{err_from_is_err_and}
use Rattle.totem_certificate.proofs.CertAnswers.{header_read, lines_failed, lines_read, is_read}
use Rattle.totem_certificate.proofs.reading.read_text.Goals as goal

pub returns-in_err-lines : goal.returns-in_err-lines
returns-in_err-lines g c =
    let p = err_from_is_err_and c.from_residual-in_err-lines.result c.from_residual-in_err-lines.ensures.1 in
    rw (p.1, p.2) (lines_failed _ _ _ _ _ (header_read _ _ _ c.in_ok-version.ensures.read) c.in_err-lines.ensures)

pub returns : goal.returns
returns g c = lines_read _ _ _ _ _ (header_read _ _ _ c.in_ok-version.ensures.read) c.in_ok-lines.ensures

pub invariant_of-result : goal.invariant_of-result
invariant_of-result g c = is_read _ _ _ _ _ _ c.in_ok-version.ensures.read c.in_ok-lines.ensures
