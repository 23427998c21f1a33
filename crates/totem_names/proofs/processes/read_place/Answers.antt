use Rattle.std.proofs.lemmas.Result.{err_from_is_err_and}
use Rattle.totem_names.specs.Processes.{place_at}
use Rattle.totem_names.proofs.Readers.{begins, called, failed}
use Rattle.totem_names.proofs.processes.read_place.Goals as goal

pub returns-in_err-at-clause-read : goal.returns-in_err-at-clause-read
unfolding place_at
returns-in_err-at-clause-read g c =
    let p = err_from_is_err_and c.from_residual-in_err-at.result c.from_residual-in_err-at.ensures.1 in
    rw (p.1, p.2) (failed _ _ _ _ _ _ _ (called _ _ _ _ _ _ _ (begins _ _) c.in_ok-proc.ensures.read) c.in_err-at.ensures.read)

pub returns-clause-read : goal.returns-clause-read
unfolding place_at
returns-clause-read g c = called _ _ _ _ _ _ _ (called _ _ _ _ _ _ _ (begins _ _) c.in_ok-proc.ensures.read) c.in_ok-at.ensures.read
