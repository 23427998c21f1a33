use Rattle.std.proofs.Common.{refl}
use Rattle.totem_pass_ab.proofs.Quick.{none_known, unless}
use Rattle.totem_pass_ab.proofs.Forming.{only_form}
use Rattle.totem_pass_ab.proofs.configuration_2_3.NotedFormsQuickTests.may_have_two_forms.Goals as goal

pub returns-else-not-is_only : goal.returns-else-not-is_only
returns-else-not-is_only c =
    unless c.is_only-else-not-is_only.result _ _ c.is_only-else-not-is_only.ensures
    (λ one. rw c.in-Conf.is
    (none_known _ c.args.self.now.known (λ known. only_form _ _ c.args.self.now.run.now.logs _ _ _ _ _ _ known (c.if-not-is_only.ensures.0 refl) one)))
