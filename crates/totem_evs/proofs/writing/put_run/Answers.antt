use Rattle.totem_evs.proofs.Common.{subst, Writes, held, wrote_then, wrote_both, RunRecord, run_text}
use Rattle.totem_evs.proofs.writing.put_run.Goals as goal

pub returns : goal.returns
returns g c =
    let known = held g.S.Sink.contents g.S.Sink.failures in
    subst (λ (run : RunRecord). Writes (known c.args.pieces.now c.args.sink.now) (known c.put.new.self c.put.new.sink) c.put.result (run_text run)) c.run.view_is
    (rw (← c.as_slice.ensures.value) (wrote_then _ _ _ _ _ _ (wrote_both _ _ _ _ _ c.in_ok-put_header.ensures c.in_ok-put_logs.ensures) c.put.ensures))
