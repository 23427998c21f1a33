use Rattle.std.proofs.Common.{refl, inl, inr, ◌∙◌}
use Rattle.totem_verdicts.specs.Endings.{helped, misused, starved}
use Rattle.totem_verdicts.proofs.answering.answer.Goals as goal

pub returns-in_default : goal.returns-in_default
returns-in_default g c = rw c.tell_fault.ensures.status (starved refl c.tell_fault.ensures.line)

pub returns-in-DisplayHelp : goal.returns-in-DisplayHelp
returns-in-DisplayHelp g c = helped _ _ (rw (← c.kind.ensures) c.in-DisplayHelp.is) c.show.ensures

pub returns : goal.returns
returns g c = misused _ (λ auto. elim auto [
  | inl h ↦ c.in_default-kind.not-DisplayHelp (c.kind.ensures ∙ h)
  | inr h ↦ c.in_default-kind.not-DisplayVersion (c.kind.ensures ∙ h)
]) refl c.tell.ensures
