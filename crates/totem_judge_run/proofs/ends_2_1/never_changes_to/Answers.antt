use Rattle.std.proofs.Common.{arith}
use Rattle.totem_judge_run.proofs.Common.{refl, below_more, slice_get_read, ChangesTo}
use Rattle.totem_judge_run.proofs.LogEnds.{not_to, changes_here, never_changes}
use Rattle.totem_judge_run.proofs.ends_2_1.never_changes_to.Goals as goal

pub returns-then-is_change_to : goal.returns-then-is_change_to
returns-then-is_change_to c = grind (arith, slice_get_read, changes_here)

pub loop-entry-preserved : goal.loop-entry-preserved
loop-entry-preserved c =
    let at = slice_get_read c.args.log.now _ _ c.entry-item.result refl c.loop-entry-test.true c.entry-item.is in
    below_more (λ k. ChangesTo c.args.log.now k c.args.conf.now → ⊥) _ c.loop-entry.invariant
    (not_to c.args.log.now c.loop-entry.entry-index _ c.args.conf.now at (λ h. let t = c.if-is_change_to.ensures.1 h in cc))

pub returns : goal.returns
returns c = (λ t. never_changes _ _ _ c.loop-entry-test.false c.loop-entry.invariant, λ h. refl)
