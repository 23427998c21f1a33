use Rattle.totem_evs.proofs.Common.{take, flat_map, Wrote, held, process_text, line, entry_text}
use Rattle.totem_evs.proofs.writing.put_entries.Given as goal

abbrev pub invariant-loop-entry : goal.invariant-loop-entry
invariant-loop-entry g l =
    let known = held g.S.Sink.contents g.S.Sink.failures in
    Wrote (known l.fn.pieces l.fn.sink) (known l.pieces l.sink) (flat_map (λ entry. line (entry_text (process_text l.version) entry)) (take l.entry-index l.entries))
