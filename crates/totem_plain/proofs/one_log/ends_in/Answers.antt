use Rattle.totem_search.proofs.Loops.{no_is}
use Rattle.totem_plain.proofs.Follows.{same_last}
use Rattle.totem_plain.proofs.one_log.ends_in.Goals as goal

pub returns-in-Some : goal.returns-in-Some
returns-in-Some c = (λ t. rw (c.is.ensures.0 t) at c.in-Some.ensures.some, λ last. c.is.ensures.1 (same_last _ _ _ c.in-Some.ensures.some last))

pub returns-in-None : goal.returns-in-None
returns-in-None c = no_is (λ last. c.in-None.ensures.none.none _ last)
