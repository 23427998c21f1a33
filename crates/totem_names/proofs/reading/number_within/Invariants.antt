use Rattle.std.proofs.Common.{◌≡◌, ◌<◌, ◌≤◌, ℕ, List, ◌++◌, take}
use Rattle.totem_names.specs.Numbers.{digits_at, number_at}
use Rattle.totem_names.proofs.reading.number_within.Given as goal

abbrev pub invariant-loop-at : goal.invariant-loop-at
invariant-loop-at l = record {
  so_far : (more : List ℕ) → number_at l.max (take l.at l.bytes ++ more) ≡ digits_at l.max l.number more;
  positive : 0 < l.number;
  in_range : l.number ≤ l.max;
}
