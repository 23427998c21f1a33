use Rattle.totem_certificate.proofs.Common.{◌++◌, subst, Version, Writes, held, wrote_then, cert_text}
use Rattle.totem_verdicts.specs.Report.{yes_text}
use Rattle.totem_verdicts.proofs.report.put_report.Goals as goal

pub returns-in-Whole : goal.returns-in-Whole
returns-in-Whole g c =
    let known = held g.S.Sink.contents g.S.Sink.failures in
    let same = rw c.in-Yes.is at c.requires in
    rw (c.in-Whole.is, c.in-Yes.is, ← c.deref-in-Yes.ensures.value, ← c.deref.ensures.value)
    (subst (λ (version : Version). Writes (known c.args.pieces.now c.args.sink.now) (known c.put_cert.new.pieces c.put_cert.new.sink) c.put_cert.result (yes_text c.args.version c.deref.result.now c.deref-in-Yes.result.now ++ cert_text (record { version = version; lines = c.in-Yes.certificate.lines }))) same
    (wrote_then _ _ _ _ _ _ c.in_ok-put_yes-in-Yes.ensures c.put_cert.ensures))

pub returns-in-Brief : goal.returns-in-Brief
returns-in-Brief g c =
    rw (c.in-Brief.is, c.in-Yes.is, ← c.deref-in-Yes.ensures.value, ← c.deref.ensures.value) (wrote_then _ _ _ _ _ _ c.in_ok-put_yes-in-Yes.ensures c.put.ensures)

pub returns-in-No : goal.returns-in-No
returns-in-No g c = rw (c.in-No.is, ← c.deref-in-No.ensures.value) c.put_no.ensures
