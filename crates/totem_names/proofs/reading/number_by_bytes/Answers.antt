use Rattle.totem_names.proofs.Common.{sym, refl, arith, err_from_is_err_and}
use Rattle.totem_names.proofs.Readers.{begins, steps, stops, gives_up, first_digit, first_unfit, first_fits, first_none, next_none, next_digit, next_over, next_other, digit_low}
use Rattle.totem_names.proofs.reading.number_by_bytes.Goals as goal

pub returns-in_err-first-clause-read : goal.returns-in_err-first-clause-read
returns-in_err-first-clause-read g c = grind (arith, err_from_is_err_and, gives_up, begins, first_none)

pub returns-then-not-fits-clause-read : goal.returns-then-not-fits-clause-read
returns-then-not-fits-clause-read g c =
    stops _ _ _ _ (steps _ _ _ _ _ _ _ (begins _ _) (first_none _) c.in_ok-first.ensures.read (first_unfit _ _ (sym c.if-not-fits.ensures))) refl

pub loop-byte-init : goal.loop-byte-init
loop-byte-init g c = grind (arith, first_fits, digit_low, steps, begins, first_none, first_digit)

pub returns-in_err-byte-clause-read : goal.returns-in_err-byte-clause-read
returns-in_err-byte-clause-read g c =
    let p = err_from_is_err_and c.from_residual-in_err-byte.result c.from_residual-in_err-byte.ensures.1 in
    rw (p.1, p.2) (gives_up _ _ _ _ _ _ c.loop-byte.invariant.so_far (next_none _ _) c.in_err-byte.ensures.read)

pub returns-then-not-more-clause-read : goal.returns-then-not-more-clause-read
returns-then-not-more-clause-read g c = steps _ _ _ _ _ _ _ c.loop-byte.invariant.so_far (next_none _ _) c.in_ok-byte.ensures.read (next_other _ _ _ (sym c.if-not-more.ensures))

pub returns-then-larger-from-clause-read : goal.returns-then-larger-from-clause-read
returns-then-larger-from-clause-read g c = stops _ _ _ _ (steps _ _ _ _ _ _ _ c.loop-byte.invariant.so_far (next_none _ _) c.in_ok-byte.ensures.read
    (next_over _ _ _ _ (sym c.if-not-more.ensures) c.from.ensures (rw c.from-in-loop-byte.ensures at c.if-larger-from.true))) refl

pub loop-byte-preserved : goal.loop-byte-preserved
loop-byte-preserved g c = record {
  so_far = steps _ _ _ _ _ _ _ c.loop-byte.invariant.so_far (next_none _ _) c.in_ok-byte.ensures.read
      (next_digit _ _ _ _ (sym c.if-not-more.ensures) c.from.ensures (rw c.from-in-loop-byte.ensures at c.if-larger-from.false));
  positive = omega (arith, c.loop-byte.invariant.positive);
  in_range = rw c.from-in-loop-byte.ensures at c.if-larger-from.false;
}
