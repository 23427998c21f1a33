use Rattle.totem_evs.proofs.Common.{refl, err_from_is_err_and, begins, called, failed, handed, picks, skips, stops}
use Rattle.totem_evs.specs.RunGrammar.{ail_at}
use Rattle.totem_evs.proofs.lines.read_ail.Goals as goal

pub returns-in_err-letter-clause-read : goal.returns-in_err-letter-clause-read
unfolding ail_at
returns-in_err-letter-clause-read g c =
    let p = err_from_is_err_and c.from_residual-in_err-letter.result c.from_residual-in_err-letter.ensures.1 in
    rw (p.1, p.2) (failed _ _ _ _ _ _ _ (called _ _ _ _ _ _ _ (begins _ _) c.in_ok-word.ensures.read) c.in_err-letter.ensures.read)

pub returns-then-letter-eq101-clause-read : goal.returns-then-letter-eq101-clause-read
unfolding ail_at
returns-then-letter-eq101-clause-read g c = handed _ _ _ _ _ _ (picks _ _ _ _ _ _ _ (called _ _ _ _ _ _ _ (called _ _ _ _ _ _ _ (begins _ _) c.in_ok-word.ensures.read) c.in_ok-letter.ensures.read) c.if-letter-eq101.true) c.read_failed.ensures.read

pub returns-then-letter-eq32-clause-read : goal.returns-then-letter-eq32-clause-read
unfolding ail_at
returns-then-letter-eq32-clause-read g c = handed _ _ _ _ _ _ (picks _ _ _ _ _ _ _ (skips _ _ _ _ _ _ _ (called _ _ _ _ _ _ _ (called _ _ _ _ _ _ _ (begins _ _) c.in_ok-word.ensures.read) c.in_ok-letter.ensures.read) c.if-letter-eq101.false) c.if-letter-eq32.true) c.read_fail.ensures.read

pub returns-clause-read : goal.returns-clause-read
unfolding ail_at
returns-clause-read g c = stops _ _ _ _ (skips _ _ _ _ _ _ _ (skips _ _ _ _ _ _ _ (called _ _ _ _ _ _ _ (called _ _ _ _ _ _ _ (begins _ _) c.in_ok-word.ensures.read) c.in_ok-letter.ensures.read) c.if-letter-eq101.false) c.if-letter-eq32.false) refl

pub returns-then-letter-eq32-clause-follows : goal.returns-then-letter-eq32-clause-follows
returns-then-letter-eq32-clause-follows g c = λ written. c.read_fail.ensures.follows written

pub returns-then-letter-eq101-clause-follows : goal.returns-then-letter-eq101-clause-follows
returns-then-letter-eq101-clause-follows g c = λ written. c.read_failed.ensures.follows written
