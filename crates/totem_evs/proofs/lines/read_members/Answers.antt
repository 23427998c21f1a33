use Rattle.totem_evs.proofs.Common.{◌-◌, ◌+◌, refl, arith, length_push, err_from_is_err_and, begins, called, failed, same_left, stops, picks, skips, is_within, is_above}
use Rattle.totem_evs.proofs.RunLoops.{members_first, members_step, members_none}
use Rattle.totem_evs.proofs.Grown.{rising_none, rising_more, rising_members}
use Rattle.totem_evs.proofs.lines.read_members.Goals as goal

pub returns-in_err-proc : goal.returns-in_err-proc
returns-in_err-proc g c =
    let p = err_from_is_err_and c.from_residual-in_err-proc.result c.from_residual-in_err-proc.ensures.1 in
    rw (p.1, p.2) (failed _ _ _ _ _ _ _ (same_left _ _ _ _ _ c.loop.invariant.so_far (members_step c.args.version c.loop.procs.items (32 - c.loop.counter) (32 - (c.loop.counter + 1)) c.loop.last (omega arith))) c.in_err-proc.ensures.read)

pub returns-then-id-last : goal.returns-then-id-last
returns-then-id-last g c =
    let within = rw (c.from-id.ensures, c.number.ensures.value, c.id.ensures) at c.if-id-last.true in
    stops _ _ _ _ (is_within _ _ _ _ _ _ _ (called _ _ _ _ _ _ _ (same_left _ _ _ _ _ c.loop.invariant.so_far (members_step c.args.version c.loop.procs.items (32 - c.loop.counter) (32 - (c.loop.counter + 1)) c.loop.last (omega arith))) c.in_ok-proc.ensures.read) within) refl

pub loop-init : goal.loop-init
loop-init g c = rw c.in_ok-procs.ensures.items (record {
  so_far = same_left _ _ _ _ _ (begins _ _) (members_first c.args.version 32 0);
  count = refl;
  rising = rising_none 0;
})

pub from_vec-requires : goal.from_vec-requires
from_vec-requires g c =
    let above = rw (c.from-id.ensures, c.number.ensures.value, c.id.ensures) at c.if-id-last.false in
    rw c.in_ok-push.ensures.items
    (rising_members _ _ (rising_more _ _ _ c.loop.invariant.rising above (c.life_fits.ensures (λ h. absurd cc)))
    (omega (arith, length_push c.loop.procs.items c.in_ok-proc.proc)) (omega (arith, length_push c.loop.procs.items c.in_ok-proc.proc)))

pub returns-then-byte-eq10 : goal.returns-then-byte-eq10
returns-then-byte-eq10 g c =
    let above = rw (c.from-id.ensures, c.number.ensures.value, c.id.ensures) at c.if-id-last.false in
    rw (c.in_ok-from_vec.ensures, c.in_ok-push.ensures.items)
    (picks _ _ _ _ _ _ _ (is_above _ _ _ _ _ _ _ (called _ _ _ _ _ _ _ (same_left _ _ _ _ _ c.loop.invariant.so_far (members_step c.args.version c.loop.procs.items (32 - c.loop.counter) (32 - (c.loop.counter + 1)) c.loop.last (omega arith))) c.in_ok-proc.ensures.read) above) c.if-byte-eq10.true)

pub returns-then-byte-ne32 : goal.returns-then-byte-ne32
returns-then-byte-ne32 g c =
    let above = rw (c.from-id.ensures, c.number.ensures.value, c.id.ensures) at c.if-id-last.false in
    stops _ _ _ _ (skips _ _ _ _ _ _ _ (skips _ _ _ _ _ _ _ (is_above _ _ _ _ _ _ _ (called _ _ _ _ _ _ _ (same_left _ _ _ _ _ c.loop.invariant.so_far (members_step c.args.version c.loop.procs.items (32 - c.loop.counter) (32 - (c.loop.counter + 1)) c.loop.last (omega arith))) c.in_ok-proc.ensures.read) above) c.if-byte-eq10.false) c.if-byte-ne32.true) refl

pub loop-preserved : goal.loop-preserved
loop-preserved g c =
    let above = rw (c.from-id.ensures, c.number.ensures.value, c.id.ensures) at c.if-id-last.false in
    rw (c.from-id.ensures, c.number.ensures.value, c.id.ensures, c.in_ok-push.ensures.items) (record {
      so_far = picks _ _ _ _ _ _ _ (skips _ _ _ _ _ _ _ (is_above _ _ _ _ _ _ _ (called _ _ _ _ _ _ _ (same_left _ _ _ _ _ c.loop.invariant.so_far (members_step c.args.version c.loop.procs.items (32 - c.loop.counter) (32 - (c.loop.counter + 1)) c.loop.last (omega arith))) c.in_ok-proc.ensures.read) above) c.if-byte-eq10.false) c.if-byte-ne32.false;
      count = omega (arith, length_push c.loop.procs.items c.in_ok-proc.proc);
      rising = rising_more _ _ _ c.loop.invariant.rising above (c.life_fits.ensures (λ h. absurd cc));
    })

pub returns : goal.returns
returns g c = stops _ _ _ _ (same_left _ _ _ _ _ c.loop.invariant.so_far (members_none c.args.version c.loop.procs.items (32 - c.loop.counter) c.loop.last (omega arith))) refl
