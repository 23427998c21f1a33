use Rattle.totem_evs.proofs.Common.{sym, ◌∙◌, err_from_is_err_and, begins, called, failed, passed}
use Rattle.totem_evs.specs.RunGrammar.{delivery_at}
use Rattle.totem_evs.proofs.lines.read_delivery.Goals as goal

pub returns-in_err-conf-clause-read : goal.returns-in_err-conf-clause-read
unfolding delivery_at
returns-in_err-conf-clause-read g c =
    let p = err_from_is_err_and c.from_residual-in_err-conf.result c.from_residual-in_err-conf.ensures.1 in
    rw (p.1, p.2) (failed _ _ _ _ _ _ _ (called _ _ _ _ _ _ _ (passed _ _ _ _ _ _ (begins _ _) (sym c.is_full.ensures ∙ c.if-is_full.false)) c.in_ok-word.ensures.read) c.in_err-conf.ensures.read)

pub returns-in_err-message-clause-read : goal.returns-in_err-message-clause-read
unfolding delivery_at
returns-in_err-message-clause-read g c =
    let p = err_from_is_err_and c.from_residual-in_err-message.result c.from_residual-in_err-message.ensures.1 in
    rw (p.1, p.2) (failed _ _ _ _ _ _ _ (called _ _ _ _ _ _ _ (called _ _ _ _ _ _ _ (passed _ _ _ _ _ _ (begins _ _) (sym c.is_full.ensures ∙ c.if-is_full.false)) c.in_ok-word.ensures.read) c.in_ok-conf.ensures.read) c.in_err-message.ensures.read)

pub returns-clause-read : goal.returns-clause-read
unfolding delivery_at
returns-clause-read g c = called _ _ _ _ _ _ _ (called _ _ _ _ _ _ _ (called _ _ _ _ _ _ _ (passed _ _ _ _ _ _ (begins _ _) (sym c.is_full.ensures ∙ c.if-is_full.false)) c.in_ok-word.ensures.read) c.in_ok-conf.ensures.read) c.in_ok-message.ensures.read
