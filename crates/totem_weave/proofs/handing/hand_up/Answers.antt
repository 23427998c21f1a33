use Rattle.totem_weave.proofs.Common.{List, Option, sym, subst, Message, RingOut, act_on, IsAt, with_act, Tries}
use Rattle.totem_weave.proofs.HandingUp.{done_more}
use Rattle.totem_weave.proofs.handing.hand_up.Goals as goal

pub returns-in_ok-append : goal.returns-in_ok-append
returns-in_ok-append c own at =
    let P : Option RingOut → Type 0 = λ found. Tries c.args.state.now c.try_act.new.state (act_on c.args.state.now c.args.act.now) found in
    let Q : List Message → Type 0 = λ ms. IsAt (with_act own c.args.act.now) c.try_act.new.state ms in
    subst Q (sym c.in_ok-append.ensures.items)
    (done_more own c.args.state.now c.try_act.new.state c.args.handed.now.items c.args.act.now c.in-Some.out (subst P c.in-Some.is c.in_ok-out.ensures) at)
