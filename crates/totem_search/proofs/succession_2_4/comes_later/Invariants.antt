use Rattle.std.proofs.Common.{◌-◌}
use Rattle.totem_search.proofs.Turning.{NoneBetween}
use Rattle.totem_search.proofs.succession_2_4.comes_later.Given as goal

abbrev pub invariant-loop-back : goal.invariant-loop-back
invariant-loop-back l = NoneBetween l.log (l.at - l.back) l.at
