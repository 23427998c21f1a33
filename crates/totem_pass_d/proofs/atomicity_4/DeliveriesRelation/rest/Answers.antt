use Rattle.totem_pass_d.proofs.Facts.{facts_of}
use Rattle.totem_pass_d.proofs.AtomicityFaults.{none_at_end, partings_begin, none_along, least_along, next_is_short}
use Rattle.totem_pass_d.proofs.atomicity_4.DeliveriesRelation.rest.Goals as goal

pub returns-in_default-change_at : goal.returns-in_default-change_at
returns-in_default-change_at c =
    none_at_end _ _ _ c.args.stay.now _ c.in-Deliver.conf _ _ _ (facts_of c.args.self.now.stays.now c.requires.known) c.requires.among c.span_of-next_at.ensures (rw c.in-Deliver.is at c.entry_in.ensures) c.in_default-change_at.ensures.none

pub first_found-requires-clause-begins : goal.first_found-requires-clause-begins
first_found-requires-clause-begins c = partings_begin _ _ _ _ _ _ (facts_of c.args.self.now.stays.now c.requires.known)

pub returns-in_default-2 : goal.returns-in_default-2
returns-in_default-2 c =
    none_along _ _ _ c.args.stay.now _ c.in-Deliver.conf _ _ _ _ (facts_of c.args.self.now.stays.now c.requires.known) c.requires.among c.span_of-next_at.ensures (rw c.in-Deliver.is at c.entry_in.ensures) c.in-Some.ensures.found
    (rw c.in_default-2.is at c.in_ok-list.ensures)

pub begin_at-requires : goal.begin_at-requires
begin_at-requires c = next_is_short _ _ _ c.args.stay.now _ _ (facts_of c.args.self.now.stays.now c.requires.known) c.requires.among c.in-Some.ensures.found

pub returns : goal.returns
returns c =
    rw c.in_ok-begin_at.ensures
    (least_along _ _ _ c.args.stay.now _ c.in-Deliver.conf _ _ _ _ c.in-Some-2.list.items (facts_of c.args.self.now.stays.now c.requires.known) c.requires.among c.span_of-next_at.ensures c.requires.inside (rw c.in-Deliver.is at c.entry_in.ensures) c.in-Some.ensures.found
    (rw c.in-Some-2.is at c.in_ok-list.ensures))
