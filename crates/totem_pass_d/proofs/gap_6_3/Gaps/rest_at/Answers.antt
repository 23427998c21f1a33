use Rattle.totem_search.proofs.Searching.{reworded}
use Rattle.totem_pass_d.proofs.Facts.{facts_of}
use Rattle.totem_pass_d.proofs.GapFaults.{none_unsent, none_after, least_after, none_behind}
use Rattle.totem_pass_d.proofs.gap_6_3.Gaps.rest_at.Goals as goal

pub returns-then-all_keep_up : goal.returns-then-all_keep_up
returns-then-all_keep_up c =
    let s = c.args.self.now.stays.now in
    none_behind s.run.now.logs s.ring s.list.items _ _ _ _ (facts_of s c.requires.known) (rw c.in-Deliver.is at c.entry_in.ensures) c.if-all_keep_up.ensures

pub returns-in_default-send_of : goal.returns-in_default-send_of
returns-in_default-send_of c =
    none_unsent _ _ _ c.args.leader.now _ _ _ (facts_of c.args.self.now.stays.now c.requires.known) c.requires.among c.requires.inside (rw c.in-Deliver.is at c.entry_in.ensures) c.in_default-send_of.ensures.none

pub returns : goal.returns
returns c =
    let of = facts_of c.args.self.now.stays.now c.requires.known in
    let at = rw c.in-Deliver.is at c.entry_in.ensures in
    reworded c.find_in.result _ _ _ _
    (λ none. none_after _ _ _ c.args.leader.now _ _ _ c.in-Some.sending of c.requires.among at c.in-Some.ensures.found none)
    (λ list least. least_after _ _ _ c.args.leader.now _ _ _ c.in-Some.sending list.items of c.requires.among c.requires.inside at c.in-Some.ensures.found least)
    c.find_in.ensures
