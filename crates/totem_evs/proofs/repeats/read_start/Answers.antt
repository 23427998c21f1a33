use Rattle.totem_evs.specs.LineStarts.{start_at}
use Rattle.totem_names.proofs.Readers.{begins, called, handed, picks, skips}
use Rattle.totem_evs.proofs.repeats.read_start.Goals as goal

pub returns-then-letter-eq115 : goal.returns-then-letter-eq115
unfolding start_at
returns-then-letter-eq115 g c = handed _ _ _ _ _ _ (picks _ _ _ _ _ _ _ (called _ _ _ _ _ _ _ (begins _ _) c.in_ok-letter.ensures.read) c.if-letter-eq115.true) c.read_send.ensures

pub returns-then-letter-eq100 : goal.returns-then-letter-eq100
unfolding start_at
returns-then-letter-eq100 g c = handed _ _ _ _ _ _ (picks _ _ _ _ _ _ _ (skips _ _ _ _ _ _ _ (called _ _ _ _ _ _ _ (begins _ _) c.in_ok-letter.ensures.read) c.if-letter-eq115.false) c.if-letter-eq100.true) c.read_delivery.ensures
