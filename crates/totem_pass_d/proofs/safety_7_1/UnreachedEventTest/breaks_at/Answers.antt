use Rattle.totem_pass_d.proofs.Common.{ℕ, refl, rules, tests, DeliversOrEnds}
use Rattle.std.proofs.lemmas.Iterator.{cases_from_all, YieldsList-from_slice}
use Rattle.totem_pass_d.proofs.Facts.{facts_of}
use Rattle.totem_pass_d.proofs.EventFaults.{where_not, where_all, all_or_not_all, safety_no_delivery, safety_unsafe, safety_everywhere, safety_not}
use Rattle.totem_pass_d.proofs.safety_7_1.UnreachedEventTest.breaks_at.Goals as goal

pub returns-in_default-clause-never : goal.returns-in_default-clause-never
returns-in_default-clause-never c = let s = c.args.self.now.stays.now in safety_no_delivery s.run.now.logs s.ring c.args.stay.now.proc c.args.at _ c.entry_in.ensures c.in_default.not-Deliver

pub returns-then-not-is_safe-clause-never : goal.returns-then-not-is_safe-clause-never
returns-then-not-is_safe-clause-never c =
    let s = c.args.self.now.stays.now in
    let f = facts_of s c.requires.known in
    safety_unsafe s.run.now.logs s.ring c.args.stay.now.proc c.args.at _ _ f.meets (rw c.in-Deliver.is at c.entry_in.ensures) (λ h. let t = c.if-not-is_safe.ensures.1 h in cc)

pub returns : goal.returns
returns c =
    let s = c.args.self.now.stays.now in
    let f = facts_of s c.requires.known in
    let Reached : ℕ → Type 0 = λ q. DeliversOrEnds s.run.now.logs q s.ring c.in-Deliver.message in
    let cases = cases_from_all _ _ _ Reached (λ q. Reached q → ⊥) c.all.ensures.ran (YieldsList-from_slice c.members_at-members.result.now cc) (λ x q k. search (rules, tests)) (λ x q k. search (rules, tests)) in
    let all = all_or_not_all _ Reached _ cases in
    record {
      there = where_not c.all.result _ _ all.1 (λ not_all. safety_not s.run.now.logs s.ring c.args.stay.now c.args.at _ _ _ (f.each c.args.stay.now c.requires.among) c.requires.inside (rw c.in-Deliver.is at c.entry_in.ensures) (c.if-not-is_safe.ensures.0 refl) c.members_at-members.ensures not_all);
      never = where_all c.all.result _ _ all.0 (λ all. safety_everywhere s.run.now.logs s.ring c.args.stay.now c.args.at _ _ _ f.meets (rw c.in-Deliver.is at c.entry_in.ensures) c.members_at-members.ensures all);
    }
