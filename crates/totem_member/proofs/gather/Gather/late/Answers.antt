use Rattle.totem_member.proofs.Common.{not, take_all, part_is, agrees}
use Rattle.totem_member.proofs.gather.Gather.late.Goals as goal

pub of-requires : goal.of-requires
of-requires c =
    rw (c.loop-proc.invariant.so_far, take_all c.loop-proc.proc-index c.as_slice-proc-items.result.now c.loop-proc-test.false, c.as_slice-proc-items.ensures.value)
    (part_is (λ p. not (agrees c.args.self.now p)) c.args.members.now c.as_slice-proc-items.ensures.processes)
