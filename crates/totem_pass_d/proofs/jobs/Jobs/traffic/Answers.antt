use Rattle.totem_pass_d.proofs.Common.{refl, subst, slice_get_read, RingId, IsTrafficOf}
use Rattle.totem_pass_d.proofs.jobs.Jobs.traffic.Goals as goal

pub returns : goal.returns
returns c =
    let one = c.in_ok-one.one.now in
    let found = c.in_ok-one.ensures.lookup in
    let at = rw c.deref-2.ensures.value at (slice_get_read c.deref-2.result.now _ c.in_ok-slot.field-0.now one refl found.3.0 found.1) in
    subst (λ (ring : RingId). IsTrafficOf c.args.self.now.run.now.logs ring one.traffic) c.if-not-is_of.ensures (c.requires.observed.each _ one at)
