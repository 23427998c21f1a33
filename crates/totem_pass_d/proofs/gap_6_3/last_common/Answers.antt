use Rattle.std.proofs.Common.{arith}
use Rattle.totem_pass_d.proofs.Facts.{facts_of}
use Rattle.totem_pass_d.proofs.GapFaults.{apart_at_end, apart_more}
use Rattle.totem_pass_d.proofs.gap_6_3.last_common.Goals as goal

pub back-init : goal.back-init
back-init c =
    let s = c.args.stays.now in
    let of = facts_of s c.requires.known in
    record { apart = apart_at_end s.run.now.logs s.ring s.list.items c.args.leader.now c.args.follower.now.proc c.args.until of c.requires.leader; until = omega arith }

pub overflow_add-leader : goal.overflow_add-leader
overflow_add-leader c =
    let s = c.args.stays.now in
    let of = (facts_of s c.requires.known).each c.args.leader.now c.requires.leader in
    omega (arith, of.is.before, of.is.until, of.few)

pub back-preserved : goal.back-preserved
back-preserved c = record { apart = apart_more _ _ _ _ _ _ _ (omega arith) c.if-is_common.ensures c.back.invariant.apart; until = (let le = c.back.invariant.until in omega arith) }
