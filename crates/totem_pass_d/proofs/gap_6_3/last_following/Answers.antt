use Rattle.std.proofs.Common.{arith}
use Rattle.totem_pass_d.proofs.Facts.{facts_of}
use Rattle.totem_pass_d.proofs.GapFaults.{passed_before, passed_more, passed_silent, passed_delivered}
use Rattle.totem_pass_d.proofs.gap_6_3.last_following.Goals as goal

pub loop-at-init : goal.loop-at-init
loop-at-init c = passed_before _ _ _ _ _

pub loop-at-preserved-in_default : goal.loop-at-preserved-in_default
loop-at-preserved-in_default c = passed_more _ _ _ _ _ _ _ (omega arith) (passed_silent _ _ c.args.follower.now _ _ _ _ c.entry_in.ensures c.in_default.not-Deliver) c.loop-at.invariant

pub loop-at-preserved : goal.loop-at-preserved
loop-at-preserved c =
    let s = c.args.stays.now in
    passed_more _ _ _ _ _ _ _ (omega (arith, c.max-last.ensures))
    (passed_delivered s.run.now.logs s.ring s.list.items c.args.follower.now _ _ _ c.loop-at.last _ _ c.delivery_of.result (facts_of s c.requires.known) (rw c.in-Deliver.is at c.entry_in.ensures)
    c.delivery_of.ensures.found c.delivery_of.ensures.none (omega (arith, c.max-last.ensures, c.unwrap_or.ensures))) c.loop-at.invariant
