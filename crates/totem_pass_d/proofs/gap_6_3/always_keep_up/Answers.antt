use Rattle.totem_pass_d.proofs.Facts.{facts_of}
use Rattle.totem_pass_d.proofs.Searching.{none_inside_more}
use Rattle.totem_pass_d.proofs.GapFaults.{none_silent, none_behind}
use Rattle.totem_pass_d.proofs.gap_6_3.always_keep_up.Goals as goal

pub loop-at-preserved-in_default : goal.loop-at-preserved-in_default
loop-at-preserved-in_default c = none_inside_more _ _ _ (none_silent _ _ c.args.leader.now.proc _ _ c.entry_in.ensures c.in_default.not-Deliver) c.loop-at.invariant

pub loop-at-preserved : goal.loop-at-preserved
loop-at-preserved c =
    let s = c.args.stays.now in
    none_inside_more _ _ _ (none_behind s.run.now.logs s.ring s.list.items _ _ _ _ (facts_of s c.requires.known) (rw c.in-Deliver.is at c.entry_in.ensures) c.if-not-all_keep_up.ensures) c.loop-at.invariant
