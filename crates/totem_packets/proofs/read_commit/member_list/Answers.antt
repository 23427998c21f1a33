use Rattle.totem_packets.proofs.Common.{All-push, err_from_is_err_and, IsCommitMember}
use Rattle.totem_packets.specs.Grammar.{member_at}
use Rattle.totem_packets.proofs.Repeats.{ends, goes_on, is_done}
use Rattle.totem_packets.proofs.read_commit.member_list.Goals as goal

pub returns-in_err-member-clause-reads : goal.returns-in_err-member-clause-reads
returns-in_err-member-clause-reads c =
    let p = err_from_is_err_and c.from_residual-in_err-member.result c.from_residual-in_err-member.ensures.1 in
    rw (p.1, p.2) (ends (member_at c.args.lives) (λ m. m.proc) _ _ _ _ _ _ _ c.loop-test.true c.in_err-member.ensures.reads c.loop.invariant.so_far)

pub loop-preserved : goal.loop-preserved
loop-preserved c = rw (c.in_ok-push.ensures.items, c.number-last.ensures.value) (record {
  so_far = goes_on (member_at c.args.lives) (λ m. m.proc) _ _ _ _ _ _ _ _ c.loop-test.true c.in_ok-member.ensures.reads c.loop.invariant.so_far;
  each = All-push IsCommitMember _ _ c.loop.invariant.each c.in_ok-member.ensures.rule;
})

pub returns-clause-reads : goal.returns-clause-reads
returns-clause-reads c = is_done (member_at c.args.lives) (λ m. m.proc) _ _ _ _ _ _ c.loop-test.false c.loop.invariant.so_far
