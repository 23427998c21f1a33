use Rattle.totem_evs.proofs.Common.{nat_lt, sym, ◌∙◌}
use Rattle.totem_evs.proofs.Repeating.{has_entry}
use Rattle.totem_evs.proofs.part_reader.PartReader.take_whole.Goals as goal

pub returns-clause-taken : goal.returns-clause-taken
returns-clause-taken g c =
    let taken = rw c.in-Some-2.is at (c.in_ok-entry.ensures.taken (nat_lt 0 c.in-Some.log.entries) c.in-Some.log.failed) in
    rw (← c.self.view_is) (has_entry _ _ _ _ c.in-Some.log c.in-Some-2.entry c.in-Some.is (sym c.is_full.ensures ∙ c.if-is_full.false) c.keeps_its_rule.ensures c.in_ok-add_entry.ensures.1 taken)
