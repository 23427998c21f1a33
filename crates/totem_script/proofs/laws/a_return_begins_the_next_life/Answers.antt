use Rattle.totem_script.proofs.Returns.{next_life_begins}
use Rattle.totem_script.proofs.laws.a_return_begins_the_next_life.Goals as goal

pub returns : goal.returns
returns c = next_life_begins
