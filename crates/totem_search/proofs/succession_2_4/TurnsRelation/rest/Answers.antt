use Rattle.std.proofs.Common.{refl}
use Rattle.totem_search.proofs.Turning.{begins_here, none_without_succession, wrong_here, none_after_right, some_after_right, others_begin, begins_not, others_of_ring}
use Rattle.totem_search.proofs.succession_2_4.TurnsRelation.rest.Goals as goal

pub returns-then-begins_transitional : goal.returns-then-begins_transitional
returns-then-begins_transitional g c = rw c.new.ensures.items (begins_here _ _ _ (rw c.requires.log at (c.if-begins_transitional.ensures.0 refl)))

pub returns-in_default : goal.returns-in_default
returns-in_default g c =
    none_without_succession _ _ _ (begins_not (g.Q.QuickTests.of c.args.self.now.quick.now) _ _ _ _ c.requires.log c.if-begins_transitional.false c.begins_transitional.ensures) (rw c.requires.log at c.in_default.ensures.none)

pub returns-then-is_wrong_succession : goal.returns-then-is_wrong_succession
returns-then-is_wrong_succession g c =
    rw (c.in_ok-begin_at.ensures, c.new-then-is_wrong_succession.ensures.items)
    (wrong_here _ _ _ _ _ _ _ _ (begins_not (g.Q.QuickTests.of c.args.self.now.quick.now) _ _ _ _ c.requires.log c.if-begins_transitional.false c.begins_transitional.ensures) (rw c.requires.log at c.in-Some.ensures.found) (c.if-is_wrong_succession.ensures.0 refl))

pub returns-in_default-conf : goal.returns-in_default-conf
returns-in_default-conf g c =
    none_after_right _ _ _ _ _ _ _ _ (begins_not (g.Q.QuickTests.of c.args.self.now.quick.now) _ _ _ _ c.requires.log c.if-begins_transitional.false c.begins_transitional.ensures) (rw c.requires.log at c.in-Some.ensures.found) (λ h. let t = c.if-is_wrong_succession.ensures.1 h in cc) (λ ring is. absurd (c.in_default-conf.not-Regular ring is))

pub returns-then-not-may_differ : goal.returns-then-not-may_differ
returns-then-not-may_differ g c =
    none_after_right _ _ _ _ _ _ _ _ (begins_not (g.Q.QuickTests.of c.args.self.now.quick.now) _ _ _ _ c.requires.log c.if-begins_transitional.false c.begins_transitional.ensures) (rw c.requires.log at c.in-Some.ensures.found) (λ h. let t = c.if-is_wrong_succession.ensures.1 h in cc)
    (λ ring is. others_of_ring _ _ _ _ _ _ c.in-Regular.is is c.if-not-may_differ.ensures)

pub returns-in-None : goal.returns-in-None
returns-in-None g c =
    none_after_right _ _ _ _ _ _ _ _ (begins_not (g.Q.QuickTests.of c.args.self.now.quick.now) _ _ _ _ c.requires.log c.if-begins_transitional.false c.begins_transitional.ensures) (rw c.requires.log at c.in-Some.ensures.found) (λ h. let t = c.if-is_wrong_succession.ensures.1 h in cc)
    (λ ring is. others_of_ring _ _ _ _ _ _ c.in-Regular.is is (rw (c.in-None.is, c.run-run.ensures) at c.in_ok-least.ensures))

pub returns-in_ok-begin_at-in-Some-2 : goal.returns-in_ok-begin_at-in-Some-2
returns-in_ok-begin_at-in-Some-2 g c =
    rw c.in_ok-begin_at-in-Some-2.ensures
    (some_after_right (g.Q.QuickTests.of c.args.self.now.quick.now) _ _ _ _ _ _ _ _ _ (begins_not (g.Q.QuickTests.of c.args.self.now.quick.now) _ _ _ _ c.requires.log c.if-begins_transitional.false c.begins_transitional.ensures) (rw c.requires.log at c.in-Some.ensures.found) (λ h. let t = c.if-is_wrong_succession.ensures.1 h in cc) c.in-Regular.is
    (rw (c.in-Some-2.is, c.run-run.ensures) at c.in_ok-least.ensures))

pub least-requires-clause-begins : goal.least-requires-clause-begins
least-requires-clause-begins g c = others_begin _ _ _ _
