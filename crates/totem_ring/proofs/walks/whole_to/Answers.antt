use Rattle.std.proofs.Common.{arith}
use Rattle.totem_ring.proofs.UpSteps.{whole_full}
use Rattle.totem_ring.proofs.walks.whole_to.Goals as goal

pub returns : goal.returns
returns c = whole_full c.args.low c.loop-number.number c.args.messages.now.entries c.requires (omega arith) c.loop-number-test.false c.loop-number.invariant.begins c.loop-number.invariant.whole
