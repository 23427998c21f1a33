use Rattle.totem_certificate.proofs.Common.{take, flat_map, Wrote, held}
use Rattle.totem_verdicts.specs.ExplainIo.{explained_text}
use Rattle.totem_verdicts.proofs.explain_stream.put_each_explained.Given as goal

abbrev pub invariant-loop-one : goal.invariant-loop-one
invariant-loop-one g l =
    let known = held g.S.Sink.contents g.S.Sink.failures in
    Wrote (known l.fn.pieces l.fn.sink) (known l.pieces l.sink) (flat_map (explained_text l.version) (take l.one-index l.list))
