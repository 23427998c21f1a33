use Rattle.totem_pass_d.proofs.GapFaults.{apart_late}
use Rattle.totem_pass_d.proofs.gap_6_3.is_common.Goals as goal

pub returns-in-Deliver : goal.returns-in-Deliver
returns-in-Deliver c =
    let s = c.args.stays.now in
    apart_late s.run.now.logs s.ring _ c.args.follower.now.proc _ _ _ _ c.comes_before.result (rw c.in-Deliver.is at c.entry_in.ensures) c.comes_before.ensures.never
