use Rattle.std.proofs.Common.{refl}
use Rattle.totem_names.proofs.AtHand.{skipped_value}
use Rattle.totem_evs.proofs.repeats.Repeats.take.Goals as goal

pub returns-clause-taken : goal.returns-clause-taken
returns-clause-taken g c = λ version some failed.
    skipped_value _ _ _ c.at_hand-bytes.result.now _ _ c.at_hand-bytes.ensures c.in_ok-entry.ensures.within (c.in_ok-entry.ensures.settles version some failed) (c.if-not-skipped.ensures.skipped refl) c.if-not-skipped.ensures.failures
