use Rattle.totem_laws.proofs.OneCertificate.{certificates_one}
use Rattle.totem_laws.proofs.one_answer.certificates_are_one.Goals as goal

pub returns : goal.returns
returns c = certificates_one
