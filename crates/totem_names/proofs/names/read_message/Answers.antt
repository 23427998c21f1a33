use Rattle.std.proofs.lemmas.Result.{err_from_is_err_and}
use Rattle.totem_names.specs.Parsers.{message_at}
use Rattle.totem_names.proofs.Readers.{begins, called, failed}
use Rattle.totem_names.proofs.names.read_message.Goals as goal

pub returns-in_err-number-clause-read : goal.returns-in_err-number-clause-read
unfolding message_at
returns-in_err-number-clause-read g c =
    let p = err_from_is_err_and c.from_residual-in_err-number.result c.from_residual-in_err-number.ensures.1 in
    rw (p.1, p.2) (failed _ _ _ _ _ _ _ (called _ _ _ _ _ _ _ (begins _ _) c.in_ok-ring.ensures.read) c.in_err-number.ensures.read)

pub returns-clause-read : goal.returns-clause-read
unfolding message_at
returns-clause-read g c = called _ _ _ _ _ _ _ (called _ _ _ _ _ _ _ (begins _ _) c.in_ok-ring.ensures.read) c.in_ok-number.ensures.read
