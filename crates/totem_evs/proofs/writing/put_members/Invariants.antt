use Rattle.totem_evs.proofs.Common.{take, Wrote, held, process_text, members_text}
use Rattle.totem_evs.proofs.writing.put_members.Given as goal

abbrev pub invariant-loop-proc : goal.invariant-loop-proc
invariant-loop-proc g l =
    let known = held g.S.Sink.contents g.S.Sink.failures in
    Wrote (known l.fn.pieces l.fn.sink) (known l.pieces l.sink) (members_text (process_text l.version) (take l.proc-index l.proc-items))
