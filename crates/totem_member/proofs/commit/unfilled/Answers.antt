use Rattle.std.proofs.lemmas.List.{take_all}
use Rattle.totem_member.proofs.FilledMembers.{unfilled_are}
use Rattle.totem_member.proofs.commit.unfilled.Goals as goal

pub of-requires : goal.of-requires
of-requires c =
    rw (c.loop-proc.invariant, take_all c.loop-proc.proc-index c.as_slice-list.result.now c.loop-proc-test.false, c.as_slice-list.ensures.value)
    (unfilled_are c.args.members.now c.requires c.as_slice-list.ensures.processes)
