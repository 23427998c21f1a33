use Rattle.std.proofs.lemmas.Result.{err_from_is_err_and}
use Rattle.totem_names.specs.Parsers.{transitional_at}
use Rattle.totem_names.proofs.Readers.{begins, called, failed}
use Rattle.totem_names.proofs.names.read_transitional.Goals as goal

pub returns-in_err-least-clause-read : goal.returns-in_err-least-clause-read
unfolding transitional_at
returns-in_err-least-clause-read g c =
    let p = err_from_is_err_and c.from_residual-in_err-least.result c.from_residual-in_err-least.ensures.1 in
    rw (p.1, p.2) (failed _ _ _ _ _ _ _ (called _ _ _ _ _ _ _ (begins _ _) c.in_ok-next.ensures.read) c.in_err-least.ensures.read)

pub returns-clause-read : goal.returns-clause-read
unfolding transitional_at
returns-clause-read g c = called _ _ _ _ _ _ _ (called _ _ _ _ _ _ _ (begins _ _) c.in_ok-next.ensures.read) c.in_ok-least.ensures.read
