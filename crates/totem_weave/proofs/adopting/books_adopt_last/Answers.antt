use Rattle.totem_weave.proofs.LastSteps.{books_adopt}
use Rattle.totem_weave.proofs.adopting.books_adopt_last.Goals as goal

pub returns : goal.returns
returns c = books_adopt
