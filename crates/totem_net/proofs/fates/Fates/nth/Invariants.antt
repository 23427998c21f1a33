use Rattle.std.proofs.Common.{◌≡◌, ◌-◌}
use Rattle.totem_net.specs.Words.{word_at}
use Rattle.totem_net.proofs.fates.Fates.nth.Given as goal

abbrev pub invariant-others : goal.invariant-others
invariant-others l =
    (l.fates.plan ≡ l.fn.plan)
    × (word_at (l.before - l.counter) l.fates.generator ≡ word_at l.before l.initial.fates.generator)
