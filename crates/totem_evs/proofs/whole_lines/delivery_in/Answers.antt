use Rattle.totem_names.specs.declared.fault.TextFault.TheVariants.{Word}
use Rattle.totem_names.proofs.Readers.{begins, called}
use Rattle.totem_evs.specs.RunGrammar.{delivery_at}
use Rattle.totem_evs.proofs.whole_lines.delivery_in.Goals as goal

pub returns : goal.returns
unfolding delivery_at
returns c =
    called _ _ _ _ _ _ _ (called _ _ _ _ _ _ _ (called _ _ _ _ _ _ _ (begins _ _) (c.in_ok-at.ensures Word)) c.in_ok-conf.ensures) c.in_ok-message.ensures
