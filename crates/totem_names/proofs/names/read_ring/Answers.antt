use Rattle.std.proofs.lemmas.Result.{err_from_is_err_and}
use Rattle.totem_names.specs.Parsers.{ring_at}
use Rattle.totem_names.proofs.Readers.{begins, called, failed}
use Rattle.totem_names.proofs.names.read_ring.Goals as goal

pub returns-in_err-rep-clause-read : goal.returns-in_err-rep-clause-read
unfolding ring_at
returns-in_err-rep-clause-read g c =
    let p = err_from_is_err_and c.from_residual-in_err-rep.result c.from_residual-in_err-rep.ensures.1 in
    rw (p.1, p.2) (failed _ _ _ _ _ _ _ (called _ _ _ _ _ _ _ (begins _ _) c.in_ok-seq.ensures.read) c.in_err-rep.ensures.read)

pub returns-clause-read : goal.returns-clause-read
unfolding ring_at
returns-clause-read g c = called _ _ _ _ _ _ _ (called _ _ _ _ _ _ _ (begins _ _) c.in_ok-seq.ensures.read) c.in_ok-rep.ensures.read
