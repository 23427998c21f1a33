use Rattle.totem_certificate.proofs.Common.{take, Wrote, held}
use Rattle.totem_cluster.specs.WeaveIo.{names_text}
use Rattle.totem_cluster.proofs.weaving.put_names.Given as goal

abbrev pub invariant-loop-message : goal.invariant-loop-message
invariant-loop-message g l =
    let known = held g.S.Sink.contents g.S.Sink.failures in
    Wrote (known l.fn.pieces l.fn.sink) (known l.pieces l.sink) (names_text (take l.message-index l.messages))
