use Rattle.totem_pass_d.proofs.Common.{sym, ◌∙◌, started}
use Rattle.totem_pass_d.proofs.Facts.{facts_of}
use Rattle.totem_search.proofs.Causing.{cause_starts}
use Rattle.totem_pass_d.proofs.CausalityFaults.{send_here, effects_begin, none_unsuspected}
use Rattle.totem_pass_d.proofs.causality_5.CausesRelation.rest.Goals as goal

pub returns-then-not-contains : goal.returns-then-not-contains
returns-then-not-contains c =
    let s = c.args.self.now.stays.now in
    none_unsuspected _ c.args.self.now.suspects s.run.now.logs s.ring s.list.items _ _ _ _ _ (facts_of s c.requires.known) c.args.self.now.are (sym c.contains.ensures ∙ c.if-not-contains.true) (rw c.in-Send.is at c.entry_in.ensures)

pub first_found-requires-clause-begins : goal.first_found-requires-clause-begins
first_found-requires-clause-begins c = effects_begin _ _ _ _ _ (facts_of c.args.self.now.stays.now c.requires.known)

pub returns : goal.returns
returns c =
    let of = facts_of c.args.self.now.stays.now c.requires.known in
    let at = rw c.in-Send.is at c.entry_in.ensures in
    started (λ list. list.items) c.first_found.result _ _ _ _ (cause_starts _ _ _ _ _ _ _ at (send_here _ _ _ c.args.stay.now _ _ _ _ of c.requires.among c.requires.inside at).0) c.first_found.ensures
