use Rattle.totem_weave.proofs.Common.{take, arith, own_start, with_acts}
use Rattle.totem_weave.proofs.HandingUp.{acts_more}
use Rattle.totem_weave.proofs.handing.handed_by.Goals as goal

pub loop-act-preserved : goal.loop-act-preserved
loop-act-preserved c =
    rw (acts_more (own_start c.args.ring c.args.members.now c.args.proc) c.args.acts.now c.loop-act.act-index c.act-item.result (omega arith) c.act-item.is)
    (c.in_ok-hand_up.ensures (with_acts (own_start c.args.ring c.args.members.now c.args.proc) (take c.loop-act.act-index c.args.acts.now)) c.loop-act.invariant)
