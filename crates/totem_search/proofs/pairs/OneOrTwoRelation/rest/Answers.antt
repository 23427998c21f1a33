use Rattle.totem_judge_run.proofs.Common.{refl, slice_get_read}
use Rattle.totem_search.proofs.Pairing.{entries, alone, with_others, none_with}
use Rattle.totem_search.proofs.Searching.{started}
use Rattle.totem_search.proofs.pairs.OneOrTwoRelation.rest.Goals as goal

pub returns-then-is_alone : goal.returns-then-is_alone
returns-then-is_alone g c =
    let at = slice_get_read c.args.log.now _ c.args.at c.index-log-at.result refl c.requires.within c.index-log-at.is in
    rw c.new.ensures.items (alone _ _ _ _ _ _ (rw c.requires.log at at) (c.if-is_alone.ensures.0 refl))

pub returns-then-not-may_pair : goal.returns-then-not-may_pair
returns-then-not-may_pair g c =
    let at = slice_get_read c.args.log.now _ c.args.at c.index-log-at.result refl c.requires.within c.index-log-at.is in
    none_with _ _ _ _ _ _ (rw c.requires.log at at) (λ h. let t = c.if-is_alone.ensures.1 h in cc) c.if-not-may_pair.ensures

pub least_bad-requires : goal.least_bad-requires
least_bad-requires g c = entries _ _

pub returns : goal.returns
returns g c =
    let at = slice_get_read c.args.log.now _ c.args.at c.index-log-at.result refl c.requires.within c.index-log-at.is in
    started (λ list. list.items) c.least_bad.result _ _ _ _ (with_others _ _ _ _ _ _ (rw c.requires.log at at) (λ h. let t = c.if-is_alone.ensures.1 h in cc)) c.least_bad.ensures
