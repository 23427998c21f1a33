use Rattle.totem_laws.proofs.Broken.{each_met}
use Rattle.totem_laws.proofs.specifications.each_is_met.Goals as goal

pub returns : goal.returns
returns c = each_met
