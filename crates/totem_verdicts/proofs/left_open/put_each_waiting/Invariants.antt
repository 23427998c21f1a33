use Rattle.totem_certificate.proofs.Common.{take, flat_map, Wrote, held}
use Rattle.totem_verdicts.specs.Report.{waiting_line}
use Rattle.totem_verdicts.proofs.left_open.put_each_waiting.Given as goal

abbrev pub invariant-loop-waiting : goal.invariant-loop-waiting
invariant-loop-waiting g l =
    let known = held g.S.Sink.contents g.S.Sink.failures in
    Wrote (known l.fn.pieces l.fn.sink) (known l.pieces l.sink) (flat_map (waiting_line l.version) (take l.waiting-index l.list))
