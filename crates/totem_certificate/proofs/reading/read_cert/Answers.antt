use Rattle.std.proofs.lemmas.Result.{err_from_is_err_and}
use Rattle.totem_certificate.proofs.CertAnswers.{was_read, passed_on}
use Rattle.totem_certificate.proofs.reading.read_cert.Goals as goal

pub returns-in_err-certificate : goal.returns-in_err-certificate
returns-in_err-certificate g c =
    let p = err_from_is_err_and c.from_residual.result c.from_residual.ensures.1 in
    rw (p.1, p.2) (passed_on _ _ _ c.in_err-certificate.ensures)

pub returns : goal.returns
returns g c = was_read _ _ _ c.in_ok-certificate.ensures
