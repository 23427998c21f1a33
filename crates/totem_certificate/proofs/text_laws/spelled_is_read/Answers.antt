use Rattle.totem_certificate.proofs.SpelledCert.{cert_again}
use Rattle.totem_certificate.proofs.text_laws.spelled_is_read.Goals as goal

pub returns : goal.returns
returns c = cert_again
