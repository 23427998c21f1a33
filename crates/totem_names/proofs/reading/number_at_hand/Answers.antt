use Rattle.std.proofs.Common.{refl}
use Rattle.totem_names.proofs.AtHand.{skipped_value}
use Rattle.totem_names.proofs.reading.number_at_hand.Goals as goal

pub returns-else-not-skipped-clause-taken : goal.returns-else-not-skipped-clause-taken
returns-else-not-skipped-clause-taken g c =
    skipped_value _ _ _ c.at_hand.result.now _ _ c.at_hand.ensures c.in-Some.ensures.count c.in-Some.ensures.number (c.if-not-skipped.ensures.skipped refl) c.if-not-skipped.ensures.failures
