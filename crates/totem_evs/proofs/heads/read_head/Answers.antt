use Rattle.totem_evs.specs.Heads.{head_at}
use Rattle.totem_names.proofs.Readers.{begins, called, handed, picks, skips}
use Rattle.totem_evs.proofs.heads.read_head.Goals as goal

pub returns-then-letter-clause-read : goal.returns-then-letter-clause-read
unfolding head_at
returns-then-letter-clause-read g c = handed _ _ _ _ _ _ (picks _ _ _ _ _ _ _ (called _ _ _ _ _ _ _ (begins _ _) c.in_ok-letter.ensures.read) (rw c.letter.ensures at c.if-letter.true)) c.read_begin.ensures.read

pub returns-then-letter-eq101-clause-read : goal.returns-then-letter-eq101-clause-read
unfolding head_at
returns-then-letter-eq101-clause-read g c =
    handed _ _ _ _ _ _ (picks _ _ _ _ _ _ _ (skips _ _ _ _ _ _ _ (called _ _ _ _ _ _ _ (begins _ _) c.in_ok-letter.ensures.read) (rw c.letter.ensures at c.if-letter.false)) c.if-letter-eq101.true) c.read_last.ensures.read

pub returns-then-letter-eq101-clause-begins : goal.returns-then-letter-eq101-clause-begins
returns-then-letter-eq101-clause-begins g c = c.read_last.ensures.begins c.args.full c.args.last
