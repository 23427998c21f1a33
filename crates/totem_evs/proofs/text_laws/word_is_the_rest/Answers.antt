use Rattle.totem_evs.proofs.WordFaults.{word_is_the_rest}
use Rattle.totem_evs.proofs.text_laws.word_is_the_rest.Goals as goal

pub returns : goal.returns
returns c = word_is_the_rest
