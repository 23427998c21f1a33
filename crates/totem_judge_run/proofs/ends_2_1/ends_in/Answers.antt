use Rattle.totem_judge_run.proofs.Common.{refl, slice_get_read}
use Rattle.totem_judge_run.proofs.LogEnds.{ends_decided, ends_nowhere, last_stands, last_within, never_last}
use Rattle.totem_judge_run.proofs.ends_2_1.ends_in.Goals as goal

pub returns-in_default : goal.returns-in_default
returns-in_default c = ends_nowhere _ _ (never_last _ _ c.requires c.in_default.not-Some)

pub bounds-log-at : goal.bounds-log-at
bounds-log-at c = last_within _ _ (last_stands _ _ _ c.in-Some.is c.requires)

pub returns : goal.returns
returns c =
    let stands = last_stands _ _ _ c.in-Some.is c.requires in
    let at = slice_get_read c.args.log.now _ _ c.index-log-at.result refl (last_within _ _ stands) c.index-log-at.is in
    ends_decided _ _ _ _ _ stands at c.is_change_to.ensures
