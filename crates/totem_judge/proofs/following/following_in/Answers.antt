use Rattle.totem_judge.proofs.Common.{read_at}
use Rattle.totem_judge.proofs.Steps.{followings_none, seen_none, followings_pushed, seen_pushed, followings_same}
use Rattle.totem_judge.proofs.following.following_in.Goals.{in-Some+then-not-contains+in_ok-push, in-Some+else-not-contains, in_default}
use Rattle.totem_judge.proofs.following.following_in.Goals as goal

pub loop-stay-init : goal.loop-stay-init
loop-stay-init c = (followings_none c.args.logs.now c.args.stays.now _, seen_none c.args.logs.now c.args.stays.now _ c.none-seen.result c.none-seen.ensures)

pub loop-stay-preserved : goal.loop-stay-preserved
loop-stay-preserved c =
    let at = read_at c.args.stays.now c.loop-stay.stay-index c.stay-item.result c.loop-stay-test.true c.stay-item.is in
    elim c.match-turn_of.branch [
      | in-Some+then-not-contains+in_ok-push w ↦ rw (w.list-is, w.seen-is) (rw w.in_ok-push.ensures.items (
        followings_pushed _ _ _ _ at c.loop-stay.list.items _ _ _ w.in-Some.ensures.some w.following_as-following.ensures c.loop-stay.invariant.0,
        seen_pushed _ _ _ _ at c.loop-stay.list.items _ _ _ w.in-Some.ensures.some w.following_as-following.ensures c.loop-stay.seen w.union-seen.result w.union-seen.ensures c.loop-stay.invariant.1,
      ))
      | in-Some+else-not-contains w ↦ rw (w.list-is, w.seen-is) (
        followings_same c.args.logs.now _ _ _ at c.loop-stay.list.items (λ x ms turns. c.loop-stay.invariant.1.each _ (w.contains.ensures.0 w.if-not-contains.false)) c.loop-stay.invariant.0,
        c.loop-stay.invariant.1,
      )
      | in_default w ↦ rw (w.list-is, w.seen-is) (
        followings_same c.args.logs.now _ _ _ at c.loop-stay.list.items (λ x ms turns. absurd (w.in_default.ensures.none.never x ms turns)) c.loop-stay.invariant.0,
        c.loop-stay.invariant.1,
      )
    ]
