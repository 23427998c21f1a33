use Rattle.totem_evs.proofs.Common.{nat_lt, sym, ◌∙◌}
use Rattle.totem_evs.proofs.Repeating.{repeated}
use Rattle.totem_evs.proofs.part_reader.PartReader.take_repeat.Goals as goal

pub returns-clause-taken : goal.returns-clause-taken
returns-clause-taken g c =
    let inside = c.self.inside in
    rw (← c.self.view_is) (repeated _ _ _ _ c.in_ok-log.log c.in_ok-entry.entry (rw (← c.self.view_is) at c.requires) c.in_ok-log.was (sym c.is_full.ensures ∙ c.if-is_full.false) c.pass_entry.ensures c.in_ok-entry.ensures.members c.keeps_its_rule.ensures (c.in_ok-entry.ensures.taken inside.stage.version (nat_lt 0 c.in_ok-log.log.entries) c.in_ok-log.log.failed)).0

pub returns-clause-limits : goal.returns-clause-limits
returns-clause-limits g c =
    let inside = c.self.inside in
    (repeated _ _ _ _ c.in_ok-log.log c.in_ok-entry.entry (rw (← c.self.view_is) at c.requires) c.in_ok-log.was (sym c.is_full.ensures ∙ c.if-is_full.false) c.pass_entry.ensures c.in_ok-entry.ensures.members c.keeps_its_rule.ensures (c.in_ok-entry.ensures.taken inside.stage.version (nat_lt 0 c.in_ok-log.log.entries) c.in_ok-log.log.failed)).1
