use Rattle.totem_certificate.proofs.SpelledCert.{no_cert}
use Rattle.totem_certificate.proofs.text_laws.a_fault_is_no_text.Goals as goal

pub returns : goal.returns
returns c = no_cert
