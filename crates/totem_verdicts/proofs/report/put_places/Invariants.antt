use Rattle.totem_certificate.proofs.Common.{take, process_text, Wrote, held}
use Rattle.totem_evs.specs.ReportText.{places_text}
use Rattle.totem_verdicts.proofs.report.put_places.Given as goal

abbrev pub invariant-loop-place : goal.invariant-loop-place
invariant-loop-place g l =
    let known = held g.S.Sink.contents g.S.Sink.failures in
    Wrote (known l.fn.pieces l.fn.sink) (known l.pieces l.sink) (places_text (process_text l.version) (take l.place-index l.places))
