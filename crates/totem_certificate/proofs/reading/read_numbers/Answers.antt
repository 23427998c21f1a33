use Rattle.totem_certificate.proofs.Common.{◌-◌, ◌+◌, refl, arith, length_push, err_from_is_err_and, begins, called, failed, same_left, stops, picks, skips}
use Rattle.totem_certificate.proofs.CertLoops.{numbers_first, numbers_step, numbers_none}
use Rattle.totem_certificate.proofs.GrownLines.{numbered_none, numbered_more, are_numbered}
use Rattle.totem_certificate.proofs.reading.read_numbers.Goals as goal

pub returns-in_err-number : goal.returns-in_err-number
returns-in_err-number g c =
    let p = err_from_is_err_and c.from_residual.result c.from_residual.ensures.1 in
    rw (p.1, p.2) (failed _ _ _ _ _ _ _ (same_left _ _ _ _ _ c.loop.invariant.so_far (numbers_step c.loop.list.items (1000000 - c.loop.counter) (1000000 - (c.loop.counter + 1)) (omega arith))) c.in_err-number.ensures.read)

pub loop-init : goal.loop-init
loop-init g c = rw c.new-list.ensures.items (record {
  so_far = same_left _ _ _ _ _ (begins _ _) (numbers_first 1000000);
  count = refl;
  numbered = numbered_none;
})

pub of-requires : goal.of-requires
of-requires g c = rw c.in_ok-push.ensures.items
    (are_numbered _ (numbered_more _ _ c.loop.invariant.numbered c.in_ok-number.ensures.range)
    (omega (arith, length_push c.loop.list.items c.in_ok-number.number)) (omega (arith, length_push c.loop.list.items c.in_ok-number.number)))

pub returns-then-byte-eq10 : goal.returns-then-byte-eq10
returns-then-byte-eq10 g c = rw (c.of.ensures, c.in_ok-push.ensures.items)
    (picks _ _ _ _ _ _ _ (called _ _ _ _ _ _ _ (same_left _ _ _ _ _ c.loop.invariant.so_far (numbers_step c.loop.list.items (1000000 - c.loop.counter) (1000000 - (c.loop.counter + 1)) (omega arith))) c.in_ok-number.ensures.read) c.if-byte-eq10.true)

pub returns-then-byte-ne32 : goal.returns-then-byte-ne32
returns-then-byte-ne32 g c =
    stops _ _ _ _ (skips _ _ _ _ _ _ _ (skips _ _ _ _ _ _ _ (called _ _ _ _ _ _ _ (same_left _ _ _ _ _ c.loop.invariant.so_far (numbers_step c.loop.list.items (1000000 - c.loop.counter) (1000000 - (c.loop.counter + 1)) (omega arith))) c.in_ok-number.ensures.read) c.if-byte-eq10.false) c.if-byte-ne32.true) refl

pub loop-preserved : goal.loop-preserved
loop-preserved g c = rw c.in_ok-push.ensures.items (record {
  so_far = picks _ _ _ _ _ _ _ (skips _ _ _ _ _ _ _ (called _ _ _ _ _ _ _ (same_left _ _ _ _ _ c.loop.invariant.so_far (numbers_step c.loop.list.items (1000000 - c.loop.counter) (1000000 - (c.loop.counter + 1)) (omega arith))) c.in_ok-number.ensures.read) c.if-byte-eq10.false) c.if-byte-ne32.false;
  count = omega (arith, length_push c.loop.list.items c.in_ok-number.number);
  numbered = numbered_more _ _ c.loop.invariant.numbered c.in_ok-number.ensures.range;
})

pub returns : goal.returns
returns g c = stops _ _ _ _ (same_left _ _ _ _ _ c.loop.invariant.so_far (numbers_none c.loop.list.items (1000000 - c.loop.counter) (omega arith))) refl
