use Rattle.std.proofs.lemmas.Bool.Decides.{Decides-eqb}
use Rattle.totem_plain.proofs.Follows.{next_told, no_next}
use Rattle.totem_plain.proofs.one_log.is_next.Goals as goal

pub returns-in-Some : goal.returns-in-Some
returns-in-Some c = next_told _ _ _ c.in-Some.found _ c.in-Some.ensures.some (Decides-eqb c.in-Some.found c.args.next)

pub returns-in-None : goal.returns-in-None
returns-in-None c = no_next _ _ _ c.in-None.ensures.none
