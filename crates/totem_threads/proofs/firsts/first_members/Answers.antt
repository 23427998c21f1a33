use Rattle.std.proofs.Common.{◌≡◌, arith}
use Rattle.totem_threads.proofs.Starting.{are_members}
use Rattle.totem_threads.proofs.firsts.first_members.Goals as goal

pub first_members-requires : goal.first_members-requires
first_members-requires c =
    let all : c.nodes.number ≡ c.args.nodes = omega (arith, c.nodes-test.false, c.nodes.auto.number-end) in
    rw (c.deref.ensures.value, c.nodes.invariant, all) (are_members c.args.nodes c.requires.0 c.requires.1)
