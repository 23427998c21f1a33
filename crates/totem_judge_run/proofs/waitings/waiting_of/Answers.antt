use Rattle.totem_judge_run.proofs.Common.{◌<◌, refl, sym, ap, ◌∙◌, AllPairs, Conf, slice_get_read}
use Rattle.totem_judge_run.proofs.WhoWaits.{members_rise, waits_not, waits_more, waits_all_in, waits_nowhere_in, change_at_end, end_within}
use Rattle.totem_judge_run.proofs.Ending.{end_stands, end_nowhere_but}
use Rattle.totem_judge_run.proofs.waitings.waiting_of.Goals.{then-not-is_there+in_ok-push, else-not-is_there}
use Rattle.totem_judge_run.proofs.waitings.waiting_of.Goals as goal

pub returns-in_default : goal.returns-in_default
returns-in_default c = waits_nowhere_in _ _ _ _ c.requires.log c.new-list.ensures.items (end_nowhere_but _ _ c.requires.last c.in_default.not-Some)

pub bounds-entries-at : goal.bounds-entries-at
bounds-entries-at c = end_within _ _ (end_stands _ _ _ c.in-Some.is c.requires.last)

pub returns-in_default-entries : goal.returns-in_default-entries
returns-in_default-entries c =
    let at = slice_get_read c.args.entries.now _ _ c.index-entries-at.result refl (end_within _ _ (end_stands _ _ _ c.in-Some.is c.requires.last)) c.index-entries-at.is in
    absurd (change_at_end _ _ _ (end_stands _ _ _ c.in-Some.is c.requires.last) at c.in_default-entries.not-Conf)

pub loop-other-preserved : goal.loop-other-preserved
loop-other-preserved c =
    let at = slice_get_read c.as_slice-other-items.result.now _ _ c.other-item.result refl c.loop-other-test.true c.other-item.is in
    let rising : AllPairs (λ a b. a < b) c.as_slice-other-items.result.now = rw c.as_slice-other-items.ensures.value (members_rise _ c.as_slice-other-items.ensures.members.rising) in
    elim c.if-not-is_there.branch [
      | then-not-is_there+in_ok-push w ↦ rw (w.list-is, w.in_ok-push.ensures.items)
          (waits_more _ _ _ _ _ _ _ rising at (λ h. (let t = c.is_there.ensures.1 h in let f = w.if-not-is_there.true in cc)) c.loop-other.invariant)
      | else-not-is_there w ↦ rw w.list-is (waits_not _ _ _ _ _ _ _ at (c.is_there.ensures.0 (let f = w.if-not-is_there.false in cc)) c.loop-other.invariant)
    ]

pub returns : goal.returns
returns c =
    let at = slice_get_read c.args.entries.now _ _ c.index-entries-at.result refl (end_within _ _ (end_stands _ _ _ c.in-Some.is c.requires.last)) c.index-entries-at.is in
    waits_all_in _ _ _ _ _ _ _ _ _ c.requires.orderly c.requires.log (end_stands _ _ _ c.in-Some.is c.requires.last) at (c.in-Conf.is ∙ ap (λ ms. Conf c.in-Conf.conf ms) (sym c.as_slice-other-items.ensures.value)) c.loop-other-test.false c.loop-other.invariant
