-- What a loop needs whose invariant names the part of a list that is left.
use Rattle.std.proofs.lemmas.Bool.Decides.{nat_tests}
use Rattle.std.proofs.lemmas.Grind.{common_steps}
use Rattle.std.proofs.lemmas.List.{drop_more, drop_all}

pub ruleset steps = (nat_tests, common_steps, drop_more, drop_all)
