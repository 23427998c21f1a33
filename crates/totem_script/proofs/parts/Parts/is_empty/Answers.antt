use Rattle.totem_script.proofs.Cuts.{shows_none}
use Rattle.totem_script.proofs.parts.Parts.is_empty.Goals as goal

pub returns : goal.returns
returns c = shows_none c.self.inside.at c.self.inside.rest c.args.self.now c.is_none.result c.self.view_is c.is_none.ensures
