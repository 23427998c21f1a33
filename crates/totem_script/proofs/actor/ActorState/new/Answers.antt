use Rattle.std.proofs.Common.{rules}
use Rattle.totem_script.proofs.Acting.{starts}
use Rattle.totem_script.proofs.actor.ActorState.new.Goals as goal

pub returns : goal.returns
returns c = starts _ _ _ _ _ _ (search rules) (search rules) (search rules)
