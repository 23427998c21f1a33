use Rattle.totem_certificate.proofs.CertParts.{of_a_line}
use Rattle.totem_certificate.proofs.text_laws.a_fault_is_of_a_line.Goals as goal

pub returns : goal.returns
returns c = of_a_line
