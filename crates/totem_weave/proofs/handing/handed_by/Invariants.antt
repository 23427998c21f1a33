use Rattle.totem_weave.proofs.Common.{take, IsAt, own_start, with_acts}
use Rattle.totem_weave.proofs.handing.handed_by.Given as goal

abbrev pub invariant-loop-act : goal.invariant-loop-act
invariant-loop-act l = IsAt (with_acts (own_start l.fn.ring l.members l.fn.proc) (take l.act-index l.acts)) l.state l.handed.items
