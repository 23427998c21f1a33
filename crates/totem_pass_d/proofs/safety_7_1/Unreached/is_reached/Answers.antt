use Rattle.std.proofs.Common.{inr}
use Rattle.totem_pass_d.proofs.Facts.{facts_of}
use Rattle.totem_pass_d.proofs.EventFaults.{excused, reached, absent}
use Rattle.totem_pass_d.proofs.safety_7_1.Unreached.is_reached.Goals as goal

pub returns-in_default : goal.returns-in_default
returns-in_default c =
    let s = c.args.self.now.stays.now in
    let f = facts_of s c.requires in
    (λ t. absurd cc, λ h. absurd (absent s.run.now.logs s.ring c.args.proc c.args.message.now f.meets c.in_default.ensures.none h))

pub returns-then-is_excused : goal.returns-then-is_excused
returns-then-is_excused c =
    let s = c.args.self.now.stays.now in
    let f = facts_of s c.requires in
    let is = f.each c.in-Some.stay.now c.in-Some.ensures.found in
    (λ t. rw (← c.in-Some.ensures.proc) (inr (excused s.run.now.logs s.ring c.in-Some.stay.now is.of (c.is_excused.ensures.0 c.if-is_excused.true))), λ h. c.if-is_excused.true)

pub returns-else-is_excused : goal.returns-else-is_excused
returns-else-is_excused c =
    let s = c.args.self.now.stays.now in
    let is = (facts_of s c.requires).each c.in-Some.stay.now c.in-Some.ensures.found in
    rw c.in-Some.ensures.proc at
    (reached s.run.now.logs s.ring c.in-Some.stay.now c.args.message.now c.delivers.result is.of (λ e. let t = c.is_excused.ensures.1 e in let f = c.if-is_excused.false in cc) c.delivers.ensures.there c.delivers.ensures.never)
