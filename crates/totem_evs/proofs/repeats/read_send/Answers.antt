use Rattle.totem_evs.proofs.Common.{err_from_is_err_and, begins, called, failed}
use Rattle.totem_evs.specs.LineStarts.{send_start}
use Rattle.totem_evs.proofs.repeats.read_send.Goals as goal

pub returns-in_err-conf : goal.returns-in_err-conf
unfolding send_start
returns-in_err-conf g c =
    let p = err_from_is_err_and c.from_residual-in_err-conf.result c.from_residual-in_err-conf.ensures.1 in
    rw (p.1, p.2) (failed _ _ _ _ _ _ _ (called _ _ _ _ _ _ _ (begins _ _) c.in_ok-word.ensures.read) c.in_err-conf.ensures.read)

pub returns-in_err-service : goal.returns-in_err-service
unfolding send_start
returns-in_err-service g c =
    let p = err_from_is_err_and c.from_residual-in_err-service.result c.from_residual-in_err-service.ensures.1 in
    rw (p.1, p.2) (failed _ _ _ _ _ _ _ (called _ _ _ _ _ _ _ (called _ _ _ _ _ _ _ (begins _ _) c.in_ok-word.ensures.read) c.in_ok-conf.ensures.read) c.in_err-service.ensures.read)

pub returns-in_err-word-2 : goal.returns-in_err-word-2
unfolding send_start
returns-in_err-word-2 g c =
    let p = err_from_is_err_and c.from_residual-in_err-word-2.result c.from_residual-in_err-word-2.ensures.1 in
    rw (p.1, p.2) (failed _ _ _ _ _ _ _ (called _ _ _ _ _ _ _ (called _ _ _ _ _ _ _ (called _ _ _ _ _ _ _ (begins _ _) c.in_ok-word.ensures.read) c.in_ok-conf.ensures.read) c.in_ok-service.ensures.read) c.in_err-word-2.ensures.read)

pub returns-in_err-ring : goal.returns-in_err-ring
unfolding send_start
returns-in_err-ring g c =
    let p = err_from_is_err_and c.from_residual-in_err-ring.result c.from_residual-in_err-ring.ensures.1 in
    rw (p.1, p.2) (failed _ _ _ _ _ _ _ (called _ _ _ _ _ _ _ (called _ _ _ _ _ _ _ (called _ _ _ _ _ _ _ (called _ _ _ _ _ _ _ (begins _ _) c.in_ok-word.ensures.read) c.in_ok-conf.ensures.read) c.in_ok-service.ensures.read) c.in_ok-word-2.ensures.read) c.in_err-ring.ensures.read)

pub returns : goal.returns
unfolding send_start
returns g c = called _ _ _ _ _ _ _ (called _ _ _ _ _ _ _ (called _ _ _ _ _ _ _ (called _ _ _ _ _ _ _ (called _ _ _ _ _ _ _ (begins _ _) c.in_ok-word.ensures.read) c.in_ok-conf.ensures.read) c.in_ok-service.ensures.read) c.in_ok-word-2.ensures.read) c.in_ok-ring.ensures.read
