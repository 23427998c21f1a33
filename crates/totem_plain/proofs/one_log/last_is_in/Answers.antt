use Rattle.totem_search.proofs.Loops.{no_is}
use Rattle.totem_plain.proofs.Follows.{same_last}
use Rattle.totem_plain.proofs.one_log.last_is_in.Goals as goal

pub returns-in-Some : goal.returns-in-Some
returns-in-Some c = (λ t. (_, c.in-Some.ensures.some, c.is_or_follows.ensures.0 t), λ (d, last, inside). c.is_or_follows.ensures.1 (rw (same_last _ _ _ last c.in-Some.ensures.some) at inside))

pub returns-in-None : goal.returns-in-None
returns-in-None c = no_is (λ (d, last, inside). c.in-None.ensures.none.none d last)
