use Rattle.totem_certificate.proofs.Common.{take, flat_map, process_text, Wrote, held, line}
use Rattle.totem_evs.specs.ReportText.{fault_text}
use Rattle.totem_verdicts.proofs.report.put_faults.Given as goal

abbrev pub invariant-loop-fault : goal.invariant-loop-fault
invariant-loop-fault g l =
    let known = held g.S.Sink.contents g.S.Sink.failures in
    Wrote (known l.fn.pieces l.fn.sink) (known l.pieces l.sink) (flat_map (λ fault. line (fault_text (process_text l.version) fault)) (take l.fault-index l.faults))
