use Rattle.totem_judge_run.proofs.Common.{refl, slice_get_read}
use Rattle.totem_judge_run.proofs.LogEnds.{last_stands, last_within, last_is_change, never_last}
use Rattle.totem_judge_run.proofs.EndsTogether.{strays_here, with_all, with_none}
use Rattle.totem_judge_run.proofs.ends_2_1.strays_at.Goals as goal

pub returns-in_default-clause-none : goal.returns-in_default-clause-none
returns-in_default-clause-none c = with_none _ _ (never_last _ _ c.requires.last c.in_default.not-Some)

pub bounds-log-at : goal.bounds-log-at
bounds-log-at c = last_within _ _ (last_stands _ _ _ c.in-Some.is c.requires.last)

pub returns-in_default-log : goal.returns-in_default-log
returns-in_default-log c =
    let stands = last_stands _ _ _ c.in-Some.is c.requires.last in
    let at = slice_get_read c.args.log.now _ _ c.index-log-at.result refl (last_within _ _ stands) c.index-log-at.is in
    absurd (last_is_change _ _ _ stands at c.in_default-log.not-Conf)

pub returns-then-all_share-clause-none : goal.returns-then-all_share-clause-none
returns-then-all_share-clause-none c =
    let stands = last_stands _ _ _ c.in-Some.is c.requires.last in
    let at = slice_get_read c.args.log.now _ _ c.index-log-at.result refl (last_within _ _ stands) c.index-log-at.is in
    with_all _ _ _ _ _ _ stands at c.in-Conf.is (rw c.as_slice.ensures.value at c.if-all_share.ensures.all)

pub returns-clause-found : goal.returns-clause-found
returns-clause-found c =
    let stands = last_stands _ _ _ c.in-Some.is c.requires.last in
    let at = slice_get_read c.args.log.now _ _ c.index-log-at.result refl (last_within _ _ stands) c.index-log-at.is in
    strays_here _ _ _ _ _ _ stands at c.in-Conf.is (rw c.as_slice.ensures.value at c.if-all_share.ensures.not_all)
