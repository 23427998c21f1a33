use Rattle.std.proofs.lemmas.List.{take_all}
use Rattle.totem_member.proofs.FilledMembers.{filled_are}
use Rattle.totem_member.proofs.commit.filled.Goals as goal

pub of-requires : goal.of-requires
of-requires c =
    rw (c.loop-member.invariant, take_all c.loop-member.member-index c.as_slice-list.result.now c.loop-member-test.false, c.as_slice-list.ensures.value)
    (filled_are c.args.proc c.args.report.now c.args.members.now c.keeps_its_rule.ensures c.as_slice-list.ensures.members)
