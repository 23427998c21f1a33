use Rattle.totem_packets.proofs.Common.{arith, All-push, err_from_is_err_and, w32, IsNumber}
use Rattle.totem_packets.specs.Fields.{above_at}
use Rattle.totem_packets.proofs.Repeats.{ends, goes_on, is_done}
use Rattle.totem_packets.proofs.read_lists.numbers.Goals as goal

pub returns-in_err-number-clause-reads : goal.returns-in_err-number-clause-reads
returns-in_err-number-clause-reads c =
    let p = err_from_is_err_and c.from_residual-in_err-number.result c.from_residual-in_err-number.ensures.1 in
    rw (p.1, p.2) (ends (above_at w32) (λ n. n) _ _ _ _ _ _ _ c.loop-test.true c.in_err-number.ensures c.loop.invariant.so_far)

pub loop-preserved : goal.loop-preserved
loop-preserved c = rw (c.in_ok-push.ensures.items, c.get-last.ensures.value) (record {
  so_far = goes_on (above_at w32) (λ n. n) _ _ _ _ _ _ _ _ c.loop-test.true c.in_ok-number.ensures c.loop.invariant.so_far;
  each = All-push IsNumber _ _ c.loop.invariant.each (record { positive = omega (arith, c.get-last.ensures.value, c.get-last.ensures.positive); small = omega (arith, c.get-last.ensures.value, c.get-last.type_inv) });
})

pub returns-clause-reads : goal.returns-clause-reads
returns-clause-reads c = is_done (above_at w32) (λ n. n) _ _ _ _ _ _ c.loop-test.false c.loop.invariant.so_far
