use Rattle.totem_evs.proofs.Common.{err_from_is_err_and, begins, called, failed}
use Rattle.totem_evs.specs.LineStarts.{delivery_start}
use Rattle.totem_evs.proofs.repeats.read_delivery.Goals as goal

pub returns-in_err-conf : goal.returns-in_err-conf
unfolding delivery_start
returns-in_err-conf g c =
    let p = err_from_is_err_and c.from_residual-in_err-conf.result c.from_residual-in_err-conf.ensures.1 in
    rw (p.1, p.2) (failed _ _ _ _ _ _ _ (called _ _ _ _ _ _ _ (begins _ _) c.in_ok-word.ensures.read) c.in_err-conf.ensures.read)

pub returns-in_err-ring : goal.returns-in_err-ring
unfolding delivery_start
returns-in_err-ring g c =
    let p = err_from_is_err_and c.from_residual-in_err-ring.result c.from_residual-in_err-ring.ensures.1 in
    rw (p.1, p.2) (failed _ _ _ _ _ _ _ (called _ _ _ _ _ _ _ (called _ _ _ _ _ _ _ (begins _ _) c.in_ok-word.ensures.read) c.in_ok-conf.ensures.read) c.in_err-ring.ensures.read)

pub returns : goal.returns
unfolding delivery_start
returns g c = called _ _ _ _ _ _ _ (called _ _ _ _ _ _ _ (called _ _ _ _ _ _ _ (begins _ _) c.in_ok-word.ensures.read) c.in_ok-conf.ensures.read) c.in_ok-ring.ensures.read
