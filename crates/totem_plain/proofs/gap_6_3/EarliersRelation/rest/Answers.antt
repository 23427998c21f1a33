use Rattle.totem_search.proofs.Searching.{started}
use Rattle.totem_plain.proofs.Lacks.{laters_begin, gap_starts}
use Rattle.totem_plain.proofs.gap_6_3.EarliersRelation.rest.Goals as goal

pub least-requires-clause-begins : goal.least-requires-clause-begins
least-requires-clause-begins c = laters_begin _ _ _ _ _

pub returns : goal.returns
returns c = started (λ list. list.items) c.least.result _ _ _ _ (gap_starts _ _ _ _ _ (rw c.requires.log at (c.delivers_in.ensures.0 (let f = c.if-not-delivers_in.false in cc)))) c.least.ensures
