use Rattle.totem_search.proofs.Searching.{started}
use Rattle.totem_pass_d.proofs.Facts.{facts_of}
use Rattle.totem_pass_d.proofs.GapFaults.{lacks_begin, lack_starts}
use Rattle.totem_pass_d.proofs.gap_6_3.LaterRelation.rest.Goals as goal

pub first_found-requires-clause-begins : goal.first_found-requires-clause-begins
first_found-requires-clause-begins c = lacks_begin _ _ _ _ _ _ (facts_of c.args.self.now.stays.now c.requires.known)

pub returns : goal.returns
returns c =
    let of = facts_of c.args.self.now.stays.now c.requires.known in
    let at = rw c.in-Deliver.is at c.entry_in.ensures in
    started (λ list. list.items) c.first_found.result _ _ _ _ (lack_starts _ _ _ c.args.stay.now _ _ _ _ _ _ of c.requires.among c.requires.inside at c.if-at-self.false) c.first_found.ensures
