use Rattle.totem_plain.proofs.Common.{slice_get_within, none_yet}
use Rattle.totem_plain.proofs.one_log.last_change.Goals as goal

pub returns-clause-none : goal.returns-clause-none
returns-clause-none c = record { none = λ x last. none_yet _ _ c.loop-at.invariant _ c.loop-at-test.false (λ k ((y, (ms, at)), none). slice_get_within _ k _ at) last.index ((x, last.change), record { none = last.none_after }) }
