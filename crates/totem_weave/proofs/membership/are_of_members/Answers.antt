use Rattle.totem_names.proofs.Each.{each_more, each_whole}
use Rattle.totem_weave.specs.Woven.{IsOfMember}
use Rattle.totem_weave.proofs.membership.are_of_members.Goals as goal

pub loop-book-preserved : goal.loop-book-preserved
loop-book-preserved c =
    each_more (IsOfMember c.args.ring c.args.members.now) _ _ _ c.loop-book-test.true c.book-item.is c.if-not-is_of_member.ensures c.loop-book.invariant

pub returns : goal.returns
returns c = each_whole (IsOfMember c.args.ring c.args.members.now) _ _ c.loop-book-test.false c.loop-book.invariant
