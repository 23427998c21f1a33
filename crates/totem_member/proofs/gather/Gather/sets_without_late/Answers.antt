use Rattle.totem_member.proofs.Common.{◌≡◌, not, filter, ap, ◌∙◌, Gather, gathered, agrees, after_timeout}
use Rattle.totem_member.proofs.GatherFacts.{given_up, room, made_is, standing_so}
use Rattle.totem_member.proofs.gather.Gather.sets_without_late.Goals as goal

pub made-requires : goal.made-requires
made-requires c =
    let same : c.self.inside.sets ≡ c.args.self.now.sets = ap (λ (g : Gather). g.sets) c.self.view_is in
    let late_is : c.late-late.result ≡ filter (λ p. not (agrees c.args.self.now p)) (gathered c.args.self.now) = c.late-late.ensures ∙ ap (filter (λ p. not (agrees c.args.self.now p))) c.gathered-members.ensures in
    room c.union.result _ (rw (same, late_is) at c.union.ensures) (given_up c.args.self.now c.keeps_its_rule.ensures).failed

pub returns-clause-standing : goal.returns-clause-standing
returns-clause-standing c =
    let same : c.self.inside.sets ≡ c.args.self.now.sets = ap (λ (g : Gather). g.sets) c.self.view_is in
    let late_is : c.late-late.result ≡ filter (λ p. not (agrees c.args.self.now p)) (gathered c.args.self.now) = c.late-late.ensures ∙ ap (filter (λ p. not (agrees c.args.self.now p))) c.gathered-members.ensures in
    standing_so c.args.self.now.me (after_timeout c.args.self.now).sets c.self.inside.sets.processes c.made.result
    (ap (λ s. s.processes) same)
    (made_is c.union.result c.made.result _ c.made.ensures (rw (same, late_is) at c.union.ensures))
    (given_up c.args.self.now c.keeps_its_rule.ensures).standing
