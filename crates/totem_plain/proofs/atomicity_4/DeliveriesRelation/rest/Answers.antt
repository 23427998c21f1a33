use Rattle.totem_plain.proofs.Common.{refl, slice_get_read, denied, started}
use Rattle.totem_plain.proofs.Partings.{goings_begin, delivery_starts, no_delivery}
use Rattle.totem_plain.proofs.atomicity_4.DeliveriesRelation.rest.Goals as goal

pub returns-then-not-is_or_follows : goal.returns-then-not-is_or_follows
returns-then-not-is_or_follows c =
    let at = rw c.requires.log at (slice_get_read c.args.log.now _ c.args.at c.index-log-at.result refl c.requires.within c.index-log-at.is) in
    no_delivery _ _ _ _ _ _ (rw c.in-Deliver.is at at) (rw c.requires.log at (denied _ c.if-not-is_or_follows.true c.is_or_follows.ensures))

pub least-requires-clause-begins : goal.least-requires-clause-begins
least-requires-clause-begins c = goings_begin _ _ _ _

pub returns : goal.returns
returns c =
    let at = rw c.requires.log at (slice_get_read c.args.log.now _ c.args.at c.index-log-at.result refl c.requires.within c.index-log-at.is) in
    started (λ list. list.items) c.least.result _ _ _ _ (delivery_starts _ _ _ _ _ _ (rw c.in-Deliver.is at at) (rw c.requires.log at (c.is_or_follows.ensures.0 (let f = c.if-not-is_or_follows.false in cc)))) c.least.ensures
