use Rattle.totem_packets.proofs.Common.{arith, length_push, All-push, err_from_is_err_and, w16, IsProcess}
use Rattle.totem_packets.specs.Fields.{above_at}
use Rattle.totem_packets.proofs.Repeats.{ends, goes_on, is_done}
use Rattle.totem_packets.proofs.read_lists.processes.Goals as goal

pub returns-in_err-proc-clause-reads : goal.returns-in_err-proc-clause-reads
returns-in_err-proc-clause-reads c =
    let p = err_from_is_err_and c.from_residual.result c.from_residual.ensures.1 in
    rw (p.1, p.2) (ends (above_at w16) (λ n. n) _ _ _ _ _ _ _ c.loop-test.true c.in_err-proc.ensures c.loop.invariant.so_far)

pub loop-preserved : goal.loop-preserved
loop-preserved c = rw (c.push.ensures, c.number-last.ensures.value) (record {
  so_far = goes_on (above_at w16) (λ n. n) _ _ _ _ _ _ _ _ c.loop-test.true c.in_ok-proc.ensures c.loop.invariant.so_far;
  each = All-push IsProcess _ _ c.loop.invariant.each (record { positive = omega (arith, c.number-last.ensures.value, c.number-last.ensures.positive); small = omega (arith, c.number-last.ensures.value, c.number-last.type_inv) });
  few = omega (arith, c.loop.invariant.few, length_push c.loop.procs c.in_ok-proc.proc);
})

pub returns-clause-reads : goal.returns-clause-reads
returns-clause-reads c = is_done (above_at w16) (λ n. n) _ _ _ _ _ _ c.loop-test.false c.loop.invariant.so_far
