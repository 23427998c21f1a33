use Rattle.std.proofs.lemmas.Result.{err_from_is_err_and}
use Rattle.totem_names.specs.Processes.{life_then}
use Rattle.totem_names.proofs.Readers.{begins, called, failed}
use Rattle.totem_names.proofs.processes.read_life.Goals as goal

pub returns-in_err-life-clause-read : goal.returns-in_err-life-clause-read
unfolding life_then
returns-in_err-life-clause-read g c =
    let p = err_from_is_err_and c.from_residual-in_err-life.result c.from_residual-in_err-life.ensures.1 in
    rw (p.1, p.2) (failed _ _ _ _ _ _ _ (called _ _ _ _ _ _ _ (begins _ _) c.in_ok-id.ensures.read) c.in_err-life.ensures.read)

pub returns-clause-read : goal.returns-clause-read
unfolding life_then
returns-clause-read g c = rw (c.of-2.ensures, c.of.ensures) (called _ _ _ _ _ _ _ (called _ _ _ _ _ _ _ (begins _ _) c.in_ok-id.ensures.read) c.in_ok-life.ensures.read)
