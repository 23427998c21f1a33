use Rattle.totem_evs.proofs.Common.{refl, err_from_is_err_and, begins, called, failed, handed, chosen, passed, picks, skips, stops}
use Rattle.totem_evs.specs.Heads.{header_at}
use Rattle.totem_evs.proofs.heads.read_header.Goals as goal

pub returns-in_err-digit-clause-read : goal.returns-in_err-digit-clause-read
unfolding header_at
returns-in_err-digit-clause-read g c =
    let p = err_from_is_err_and c.from_residual-in_err-digit.result c.from_residual-in_err-digit.ensures.1 in
    rw (p.1, p.2) (failed _ _ _ _ _ _ _ (called _ _ _ _ _ _ _ (begins _ _) (rw c.title.ensures at c.in_ok-word.ensures.read)) c.in_err-digit.ensures.read)

pub returns-then-digit-eq49-clause-read : goal.returns-then-digit-eq49-clause-read
unfolding header_at
returns-then-digit-eq49-clause-read g c = handed _ _ _ _ _ _ (picks _ _ _ _ _ _ _ (called _ _ _ _ _ _ _ (called _ _ _ _ _ _ _ (begins _ _) (rw c.title.ensures at c.in_ok-word.ensures.read)) c.in_ok-digit.ensures.read) c.if-digit-eq49.true) c.read_header_end.ensures.read

pub returns-then-digit-eq50-clause-read : goal.returns-then-digit-eq50-clause-read
unfolding header_at
returns-then-digit-eq50-clause-read g c = handed _ _ _ _ _ _ (picks _ _ _ _ _ _ _ (skips _ _ _ _ _ _ _ (called _ _ _ _ _ _ _ (called _ _ _ _ _ _ _ (begins _ _) (rw c.title.ensures at c.in_ok-word.ensures.read)) c.in_ok-digit.ensures.read) c.if-digit-eq49.false) c.if-digit-eq50.true) c.read_header_end-then-digit-eq50.ensures.read

pub returns-then-is_third-clause-read : goal.returns-then-is_third-clause-read
unfolding header_at
returns-then-is_third-clause-read g c =
    handed _ _ _ _ _ _ (chosen _ _ _ _ _ _ (skips _ _ _ _ _ _ _ (skips _ _ _ _ _ _ _ (called _ _ _ _ _ _ _ (called _ _ _ _ _ _ _ (begins _ _) (rw c.title.ensures at c.in_ok-word.ensures.read)) c.in_ok-digit.ensures.read) c.if-digit-eq49.false) c.if-digit-eq50.false) (rw c.is_third.ensures at c.if-is_third.true)) c.read_header_end-then-is_third.ensures.read

pub returns-clause-read : goal.returns-clause-read
unfolding header_at
returns-clause-read g c =
    stops _ _ _ _ (passed _ _ _ _ _ _ (skips _ _ _ _ _ _ _ (skips _ _ _ _ _ _ _ (called _ _ _ _ _ _ _ (called _ _ _ _ _ _ _ (begins _ _) (rw c.title.ensures at c.in_ok-word.ensures.read)) c.in_ok-digit.ensures.read) c.if-digit-eq49.false) c.if-digit-eq50.false) (rw c.is_third.ensures at c.if-is_third.false)) refl
