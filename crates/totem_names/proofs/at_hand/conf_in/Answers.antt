use Rattle.std.proofs.Common.{Ok}
use Rattle.std.proofs.lemmas.Option.{IfSome_then}
use Rattle.totem_names.specs.Parsers.{conf_at}
use Rattle.totem_names.proofs.Readers.{begins, called, handed, picks, skips}
use Rattle.totem_names.proofs.at_hand.conf_in.Goals as goal

pub returns-then-kind-eq114 : goal.returns-then-kind-eq114
unfolding conf_at
returns-then-kind-eq114 c = IfSome_then _ c.regular_in.ensures (λ r.
    handed _ _ _ _ _ (Ok _) (picks _ _ _ _ _ _ _ (called _ _ _ _ _ _ _ (begins _ _) c.in_ok-kind.ensures) c.if-kind-eq114.true))

pub returns-then-kind-eq116 : goal.returns-then-kind-eq116
unfolding conf_at
returns-then-kind-eq116 c = IfSome_then _ c.transitional_in.ensures (λ r.
    handed _ _ _ _ _ (Ok _) (picks _ _ _ _ _ _ _ (skips _ _ _ _ _ _ _ (called _ _ _ _ _ _ _ (begins _ _) c.in_ok-kind.ensures) c.if-kind-eq114.false) c.if-kind-eq116.true))
