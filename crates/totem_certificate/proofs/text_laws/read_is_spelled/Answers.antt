use Rattle.totem_certificate.proofs.SpelledCert.{cert_is}
use Rattle.totem_certificate.proofs.text_laws.read_is_spelled.Goals as goal

pub returns : goal.returns
returns c = cert_is
