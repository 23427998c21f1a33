use Rattle.totem_names.specs.Parsers.{conf_at}
use Rattle.totem_names.proofs.Readers.{begins, called, handed, picks, skips}
use Rattle.totem_names.proofs.names.read_conf.Goals as goal

pub returns-then-kind-eq114-clause-read : goal.returns-then-kind-eq114-clause-read
unfolding conf_at
returns-then-kind-eq114-clause-read g c =
    handed _ _ _ _ _ _ (picks _ _ _ _ _ _ _ (called _ _ _ _ _ _ _ (begins _ _) c.in_ok-kind.ensures.read) c.if-kind-eq114.true) c.read_regular.ensures.read

pub returns-then-kind-eq116-clause-read : goal.returns-then-kind-eq116-clause-read
unfolding conf_at
returns-then-kind-eq116-clause-read g c =
    handed _ _ _ _ _ _ (picks _ _ _ _ _ _ _ (skips _ _ _ _ _ _ _ (called _ _ _ _ _ _ _ (begins _ _) c.in_ok-kind.ensures.read) c.if-kind-eq114.false) c.if-kind-eq116.true) c.read_transitional.ensures.read
