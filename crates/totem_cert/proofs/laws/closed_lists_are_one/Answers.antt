use Rattle.totem_cert.proofs.ClosedOne.{closed_one}
use Rattle.totem_cert.proofs.laws.closed_lists_are_one.Goals as goal

pub returns : goal.returns
returns c = closed_one
