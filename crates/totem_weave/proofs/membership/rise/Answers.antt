use Rattle.totem_weave.proofs.Common.{◌-◌, ◌≤◌, arith, id_of}
use Rattle.totem_weave.proofs.RisingIds.{do_not_rise}
use Rattle.totem_weave.proofs.membership.rise.Goals as goal

pub returns-then-number : goal.returns-then-number
returns-then-number c =
    let falls : id_of c.index-members-place-in-loop-place.result ≤ id_of c.index-members-place.result =
    omega (arith, c.id.ensures, c.number.ensures.value, c.id-in-loop-place.ensures, c.number-in-loop-place.ensures.value, c.if-number.true) in
    do_not_rise c.args.members.now (c.loop-place.place - 1) c.loop-place.place _ _ (omega arith) (omega arith)
    c.index-members-place.is c.index-members-place-in-loop-place.is falls
