use Rattle.totem_certificate.proofs.SpelledCert.{one_cert}
use Rattle.totem_certificate.proofs.text_laws.no_text_begins_another.Goals as goal

pub returns : goal.returns
returns c = one_cert
