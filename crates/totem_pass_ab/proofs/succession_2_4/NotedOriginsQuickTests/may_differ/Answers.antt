use Rattle.totem_pass_ab.proofs.Common.{arith, refl, common_steps}
use Rattle.totem_pass_ab.proofs.Quick.{none_known}
use Rattle.totem_pass_ab.proofs.Origins.{nothing_noted, none_above}
use Rattle.totem_pass_ab.proofs.succession_2_4.NotedOriginsQuickTests.may_differ.Goals as goal

pub returns-in-None : goal.returns-in-None
returns-in-None c = none_known _ c.args.self.now.known (nothing_noted _ c.args.self.now.run.now.logs c.args.self.now.origins.latest _ _ _ c.in-None.ensures.value)

pub returns-in-Some : goal.returns-in-Some
returns-in-Some c =
    none_above _ c.args.self.now.run.now.logs c.args.self.now.origins.latest _ _ _ _ _ _ _ c.rank.ensures.value refl c.in-Some.ensures.value (λ q d within other. within.other (λ e. other (grind (arith, common_steps)))) c.args.self.now.known

pub returns-in-Some-2 : goal.returns-in-Some-2
returns-in-Some-2 c =
    none_above _ c.args.self.now.run.now.logs c.args.self.now.origins.latest _ _ _ _ _ _ _ c.rank-in-Some-2.ensures.value refl c.in-Some.ensures.value (λ q d within other. within.rank) c.args.self.now.known
