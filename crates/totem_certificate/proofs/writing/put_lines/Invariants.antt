use Rattle.totem_certificate.proofs.Common.{take, flat_map, process_text, Wrote, held, line_text}
use Rattle.totem_certificate.proofs.writing.put_lines.Given as goal

abbrev pub invariant-loop-line : goal.invariant-loop-line
invariant-loop-line g l =
    let known = held g.S.Sink.contents g.S.Sink.failures in
    Wrote (known l.fn.pieces l.fn.sink) (known l.pieces l.sink) (flat_map (line_text (process_text l.version)) (take l.line-index l.lines))
