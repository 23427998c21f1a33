use Rattle.std.proofs.Common.{rules}
use Rattle.totem_script.proofs.Acting.{recorded}
use Rattle.totem_script.proofs.actor.log_with.Goals as goal

pub returns : goal.returns
returns c =
    recorded _ _ _ _ _ (search rules) c.new-in-Ok.ensures.entries (search rules) c.new-in-Ok.ensures.ending c.ending-ending.ensures.closed c.ending-ending.ensures.loud
