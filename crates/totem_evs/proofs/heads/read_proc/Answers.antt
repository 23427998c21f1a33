use Rattle.totem_evs.proofs.Common.{refl, err_from_is_err_and, begins, called, failed, picks, skips, stops, is_within, is_above}
use Rattle.totem_evs.specs.Heads.{proc_at}
use Rattle.totem_evs.proofs.heads.read_proc.Goals as goal

pub returns-in_err-proc-clause-read : goal.returns-in_err-proc-clause-read
unfolding proc_at
returns-in_err-proc-clause-read g c =
    let p = err_from_is_err_and c.from_residual-in_err-proc.result c.from_residual-in_err-proc.ensures.1 in
    rw (p.1, p.2) (failed _ _ _ _ _ _ _ (called _ _ _ _ _ _ _ (begins _ _) (rw c.word.ensures at c.in_ok-word.ensures.read)) c.in_err-proc.ensures.read)

pub returns-then-rank-last-clause-read : goal.returns-then-rank-last-clause-read
unfolding proc_at
returns-then-rank-last-clause-read g c =
    stops _ _ _ _ (is_within _ _ _ _ _ _ _ (called _ _ _ _ _ _ _ (called _ _ _ _ _ _ _ (begins _ _) (rw c.word.ensures at c.in_ok-word.ensures.read)) c.in_ok-proc.ensures.read) (rw c.rank.ensures.value at c.if-rank-last.true)) refl

pub returns-then-byte-behind-clause-read : goal.returns-then-byte-behind-clause-read
unfolding proc_at
returns-then-byte-behind-clause-read g c =
    stops _ _ _ _ (skips _ _ _ _ _ _ _ (is_above _ _ _ _ _ _ _ (called _ _ _ _ _ _ _ (called _ _ _ _ _ _ _ (begins _ _) (rw c.word.ensures at c.in_ok-word.ensures.read)) c.in_ok-proc.ensures.read) (rw c.rank.ensures.value at c.if-rank-last.false)) (rw c.behind.ensures at c.if-byte-behind.true)) refl

pub returns-clause-read : goal.returns-clause-read
unfolding proc_at
returns-clause-read g c =
    picks _ _ _ _ _ _ _ (is_above _ _ _ _ _ _ _ (called _ _ _ _ _ _ _ (called _ _ _ _ _ _ _ (begins _ _) (rw c.word.ensures at c.in_ok-word.ensures.read)) c.in_ok-proc.ensures.read) (rw c.rank.ensures.value at c.if-rank-last.false)) (rw c.behind.ensures at c.if-byte-behind.false)
