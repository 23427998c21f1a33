use Rattle.totem_certificate.proofs.Common.{take, flat_map, Wrote, held}
use Rattle.totem_verdicts.specs.Report.{pending_line}
use Rattle.totem_verdicts.proofs.left_open.put_each_pending.Given as goal

abbrev pub invariant-loop-pending : goal.invariant-loop-pending
invariant-loop-pending g l =
    let known = held g.S.Sink.contents g.S.Sink.failures in
    Wrote (known l.fn.pieces l.fn.sink) (known l.pieces l.sink) (flat_map (pending_line l.version) (take l.pending-index l.list))
