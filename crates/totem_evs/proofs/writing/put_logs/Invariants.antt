use Rattle.totem_evs.proofs.Common.{take, flat_map, Wrote, held, process_text, log_text}
use Rattle.totem_evs.proofs.writing.put_logs.Given as goal

abbrev pub invariant-loop-log : goal.invariant-loop-log
invariant-loop-log g l =
    let known = held g.S.Sink.contents g.S.Sink.failures in
    Wrote (known l.fn.pieces l.fn.sink) (known l.pieces l.sink) (flat_map (log_text (process_text l.version)) (take l.log-index l.logs))
