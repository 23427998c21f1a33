use Rattle.totem_pass_d.proofs.Common.{refl, rules, tests, HasCome}
use Rattle.std.proofs.lemmas.Iterator.{cases_from_all, YieldsList-from_slice}
use Rattle.totem_pass_d.proofs.Facts.{facts_of}
use Rattle.totem_pass_d.proofs.EventFaults.{where_not, where_all, all_or_not_all, installed_no_delivery, installed_late, installed_unsafe, installed_everywhere, installed_not}
use Rattle.totem_pass_d.proofs.installed_7_2.UninstalledEventTest.breaks_at.Goals as goal

pub returns-in_default-clause-never : goal.returns-in_default-clause-never
returns-in_default-clause-never c = let s = c.args.self.now.stays.now in installed_no_delivery s.run.now.logs s.ring c.args.stay.now.proc c.args.at _ c.entry_in.ensures c.in_default.not-Deliver

pub returns-then-at-stay-clause-never : goal.returns-then-at-stay-clause-never
returns-then-at-stay-clause-never c =
    let s = c.args.self.now.stays.now in
    let f = facts_of s c.requires.known in
    installed_late s.run.now.logs s.ring c.args.stay.now c.args.at (f.each c.args.stay.now c.requires.among) c.if-at-stay.true c.requires.inside.until

pub returns-then-not-is_safe-clause-never : goal.returns-then-not-is_safe-clause-never
returns-then-not-is_safe-clause-never c =
    let s = c.args.self.now.stays.now in
    let f = facts_of s c.requires.known in
    installed_unsafe s.run.now.logs s.ring c.args.stay.now.proc c.args.at _ _ f.meets (rw c.in-Deliver.is at c.entry_in.ensures) (λ h. let t = c.if-not-is_safe.ensures.1 h in cc)

pub returns : goal.returns
returns c =
    let s = c.args.self.now.stays.now in
    let f = facts_of s c.requires.known in
    let Come = HasCome s.run.now.logs s.ring in
    let cases = cases_from_all _ _ _ Come (λ q. Come q → ⊥) c.all.ensures.ran (YieldsList-from_slice c.members_at-members.result.now cc) (λ x q k. search (rules, tests)) (λ x q k. search (rules, tests)) in
    let all = all_or_not_all _ Come _ cases in
    record {
      there = where_not c.all.result _ _ all.1 (λ not_all. installed_not s.run.now.logs s.ring c.args.stay.now c.args.at _ _ _ (f.each c.args.stay.now c.requires.among) c.requires.inside.after c.if-at-stay.false (rw c.in-Deliver.is at c.entry_in.ensures) (c.if-not-is_safe.ensures.0 refl) c.members_at-members.ensures not_all);
      never = where_all c.all.result _ _ all.0 (λ all. installed_everywhere s.run.now.logs s.ring c.args.stay.now c.args.at _ f.meets c.members_at-members.ensures all);
    }
