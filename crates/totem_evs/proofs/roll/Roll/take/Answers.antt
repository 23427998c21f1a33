use Rattle.std.proofs.Common.{refl, rules}
use Rattle.totem_names.proofs.InHand.{taken_stands}
use Rattle.totem_evs.proofs.roll.Roll.take.Goals as goal

pub returns-clause-taken : goal.returns-clause-taken
returns-clause-taken g c =
    taken_stands _ _ _ c.at_hand-bytes.result.now _ _ c.at_hand-bytes.ensures (search rules) c.in_ok-members.ensures (c.if-not-skipped.ensures.skipped refl) c.if-not-skipped.ensures.failures
