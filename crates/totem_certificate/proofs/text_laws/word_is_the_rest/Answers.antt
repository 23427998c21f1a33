use Rattle.totem_certificate.proofs.RestFaults.{word_is_the_rest}
use Rattle.totem_certificate.proofs.text_laws.word_is_the_rest.Goals as goal

pub returns : goal.returns
returns c = word_is_the_rest
