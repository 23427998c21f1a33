use Rattle.totem_certificate.proofs.Common.{subst, Writes, held, wrote_then, wrote_both, CertRecord, cert_text}
use Rattle.totem_certificate.proofs.writing.put_cert.Goals as goal

pub returns : goal.returns
returns g c =
    let known = held g.S.Sink.contents g.S.Sink.failures in
    subst (λ (cert : CertRecord). Writes (known c.args.pieces.now c.args.sink.now) (known c.put.new.self c.put.new.sink) c.put.result (cert_text cert)) c.certificate.view_is
    (rw (← c.as_slice.ensures.value) (wrote_then _ _ _ _ _ _ (wrote_both _ _ _ _ _ c.in_ok-put_header.ensures c.in_ok-put_lines.ensures) c.put.ensures))
