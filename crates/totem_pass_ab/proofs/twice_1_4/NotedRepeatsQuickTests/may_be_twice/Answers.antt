use Rattle.totem_pass_ab.proofs.Quick.{none_known, unless}
use Rattle.totem_pass_ab.proofs.Repeating.{only_send, once_send, only_delivery, once_delivery}
use Rattle.totem_pass_ab.proofs.twice_1_4.NotedRepeatsQuickTests.may_be_twice.Goals as goal

pub returns-then-self : goal.returns-then-self
returns-then-self c =
    unless c.is_only.result _ _ c.is_only.ensures
    (λ only. rw c.in-Send.is
    (none_known _ c.args.self.now.known (λ known. only_send _ _ _ _ c.args.self.now.run.now.logs _ _ _ _ _ c.in-Send.field-1 c.in-Send.field-2 c.if-self.true known only)))

pub returns-else-self : goal.returns-else-self
returns-else-self c =
    rw (c.if-self.false, c.in-Send.is)
    (none_known _ c.args.self.now.once (λ once. once_send c.args.self.now.run.now.logs _ _ _ _ _ (rw c.in-Send.is at c.requires.here) (once.sends (λ may. let no = c.if-self.false in cc))))

pub returns-then-is_doubtful : goal.returns-then-is_doubtful
returns-then-is_doubtful c =
    unless c.is_only-then-is_doubtful.result _ _ c.is_only-then-is_doubtful.ensures
    (λ only. rw c.in-Deliver.is
    (none_known _ c.args.self.now.known (λ known. only_delivery _ _ _ _ c.args.self.now.run.now.logs _ _ _ _ _ c.in-Deliver.field-1 (c.is_doubtful.ensures.0 c.if-is_doubtful.true) known only)))

pub returns-else-is_doubtful : goal.returns-else-is_doubtful
returns-else-is_doubtful c =
    rw (c.if-is_doubtful.false, c.in-Deliver.is)
    (none_known _ c.args.self.now.once (λ once. once_delivery c.args.self.now.run.now.logs _ _ _ _ _ (rw c.in-Deliver.is at c.requires.here) (λ has. let t = c.is_doubtful.ensures.1 has in cc) once.deliveries))
