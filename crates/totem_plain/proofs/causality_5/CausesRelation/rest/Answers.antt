use Rattle.totem_plain.proofs.Common.{refl, slice_get_read, started}
use Rattle.totem_search.proofs.Causing.{cause_starts}
use Rattle.totem_plain.proofs.Causes.{effects_begin}
use Rattle.totem_plain.proofs.causality_5.CausesRelation.rest.Goals as goal

pub least-requires-clause-begins : goal.least-requires-clause-begins
least-requires-clause-begins c = effects_begin _ _ _ _

pub returns : goal.returns
returns c =
    let at = rw c.requires.log at (slice_get_read c.args.log.now _ c.args.first c.index-log-first.result refl c.requires.within c.index-log-first.is) in
    started (λ list. list.items) c.least.result _ _ _ _ (cause_starts _ _ _ _ _ _ _ (rw c.in-Send.is at at) (c.is.ensures.0 (let f = c.if-not-is.false in cc))) c.least.ensures
