use Rattle.totem_names.proofs.Common.{◌-◌, ◌<◌, ◌≤◌, Comes, seen}
use Rattle.totem_names.specs.Numbers.{digits_at, number_at}
use Rattle.totem_names.proofs.reading.number_by_bytes.Given as goal

abbrev pub invariant-loop-byte : goal.invariant-loop-byte
invariant-loop-byte g l =
    let known = seen g.S.Source.remaining g.S.Source.failures in
    record {
      so_far : Comes (known l.fn.source) (known l.source) (number_at l.max) (digits_at l.max l.number);
      positive : 0 < l.number;
      in_range : l.number ≤ l.max;
    }

abbrev pub decreases-loop-byte : goal.decreases-loop-byte
decreases-loop-byte g l = l.max - l.number
