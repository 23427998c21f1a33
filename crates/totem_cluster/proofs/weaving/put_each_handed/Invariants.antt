use Rattle.totem_certificate.proofs.Common.{take, flat_map, Wrote, held, line}
use Rattle.totem_cluster.specs.WeaveIo.{handed_text}
use Rattle.totem_cluster.proofs.weaving.put_each_handed.Given as goal

abbrev pub invariant-loop-handed : goal.invariant-loop-handed
invariant-loop-handed g l =
    let known = held g.S.Sink.contents g.S.Sink.failures in
    Wrote (known l.fn.pieces l.fn.sink) (known l.pieces l.sink) (flat_map (λ h. line (handed_text h.0 h.1.items)) (take l.handed-index l.lists))
