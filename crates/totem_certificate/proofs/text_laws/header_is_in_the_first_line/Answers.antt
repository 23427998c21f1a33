use Rattle.totem_certificate.proofs.CertParts.{header_exactly}
use Rattle.totem_certificate.proofs.text_laws.header_is_in_the_first_line.Goals as goal

pub returns : goal.returns
returns c = header_exactly
