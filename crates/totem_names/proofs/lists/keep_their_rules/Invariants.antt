use Rattle.std.proofs.Common.{All, take}
use Rattle.totem_names.proofs.lists.keep_their_rules.Given as goal

abbrev pub invariant-loop-x : goal.invariant-loop-x
invariant-loop-x g l = All g.T.Listed.keeps (take l.x-index l.list)
