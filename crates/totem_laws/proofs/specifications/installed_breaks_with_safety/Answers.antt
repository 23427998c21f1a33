use Rattle.totem_laws.proofs.Installed.{with_safety}
use Rattle.totem_laws.proofs.specifications.installed_breaks_with_safety.Goals as goal

pub returns : goal.returns
returns c = with_safety
