use Rattle.std.proofs.Common.{refl, rules}
use Rattle.totem_names.proofs.InHand.{taken_stands}
use Rattle.totem_evs.proofs.repeats.Repeats.take_whole.Goals as goal

pub returns-clause-taken : goal.returns-clause-taken
returns-clause-taken g c = λ some failed.
    taken_stands _ _ _ c.at_hand-bytes.result.now _ _ c.at_hand-bytes.ensures (search rules) (c.in-Some.ensures some failed) (c.if-not-skipped.ensures.skipped refl) c.if-not-skipped.ensures.failures
