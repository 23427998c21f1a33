use Rattle.std.proofs.Common.{refl}
use Rattle.totem_pass_d.proofs.Facts.{facts_of}
use Rattle.totem_pass_d.proofs.EventFaults.{where_not, where_all, owned_no_send, owned_excused, owned_delivered, owned_never}
use Rattle.totem_pass_d.proofs.own_3.UndeliveredEventTest.breaks_at.Goals as goal

pub returns-in_default-clause-never : goal.returns-in_default-clause-never
returns-in_default-clause-never c = let s = c.args.self.now.stays.now in owned_no_send s.run.now.logs s.ring c.args.stay.now.proc c.args.at _ c.entry_in.ensures c.in_default.not-Send

pub returns-else-not-is_excused-clause-never : goal.returns-else-not-is_excused-clause-never
returns-else-not-is_excused-clause-never c =
    let s = c.args.self.now.stays.now in
    let is = (facts_of s c.requires.known).each c.args.stay.now c.requires.among in
    rw c.if-not-is_excused.false (owned_excused s.run.now.logs s.ring c.args.stay.now c.args.at is (c.if-not-is_excused.ensures.0 refl))

pub returns-then-not-is_excused-clause-never : goal.returns-then-not-is_excused-clause-never
returns-then-not-is_excused-clause-never c =
    let s = c.args.self.now.stays.now in
    where_all c.delivers.result _ _ c.delivers.ensures.there (λ has. owned_delivered s.run.now.logs s.ring c.args.stay.now c.args.at _ _ _ _ (rw c.in-Send.is at c.entry_in.ensures) has.1)

pub returns-then-not-is_excused-clause-there : goal.returns-then-not-is_excused-clause-there
returns-then-not-is_excused-clause-there c =
    let s = c.args.self.now.stays.now in
    let is = (facts_of s c.requires.known).each c.args.stay.now c.requires.among in
    where_not c.delivers.result _ _ c.delivers.ensures.never
    (λ not. owned_never s.run.now.logs s.ring c.args.stay.now c.args.at _ _ _ is c.requires.inside (rw c.in-Send.is at c.entry_in.ensures) (λ e. let t = c.if-not-is_excused.ensures.1 e in cc) not)
