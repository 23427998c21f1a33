use Rattle.totem_pass_ab.proofs.Common.{◌≡◌, Bool, true, false, not, refl, slice_get_read, exact_change}
use Rattle.totem_pass_ab.proofs.Sent.{enters_regular_change, follows_first, one_more_followed}
use Rattle.totem_pass_ab.proofs.unsent_1_3.FollowedChangeRegister.enter_change.Goals as goal

was_new : (b c : Bool) → c ≡ not b → c ≡ true → b ≡ false
was_new true c e f = absurd cc
was_new false c e f = refl

pub returns-in_ok-insert-2-clause-sound : goal.returns-in_ok-insert-2-clause-sound
returns-in_ok-insert-2-clause-sound c =
    let at = slice_get_read c.args.log.now _ c.args.at c.index-log-at.result refl c.requires.within c.index-log-at.is in
    one_more_followed _ exact_change c.args.self.now.rings c.insert-then-is_transitional.new.self _ _ _ _
    (follows_first _ c.args.self.now.changes _ _ _ _ _ _ _ _ _ _ _ (rw c.in-Conf.is at at) c.in-Regular.is (was_new _ _ c.in_ok-insert.ensures.added c.if-not-branch.false) c.requires.before c.in-Some.ensures.found
    (c.if-is_transitional.ensures.transitional.0 refl))
    c.in_ok-insert-2.ensures.updates

pub returns-else-is_transitional-clause-entered : goal.returns-else-is_transitional-clause-entered
returns-else-is_transitional-clause-entered c =
    let at = slice_get_read c.args.log.now _ c.args.at c.index-log-at.result refl c.requires.within c.index-log-at.is in
    enters_regular_change _ c.args.self.now.changes c.insert.new.self _ _ _ _ _ _ (rw c.in-Conf.is at at) c.in-Regular.is c.in_ok-insert.ensures.updates
