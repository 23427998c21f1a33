use Rattle.totem_packets.proofs.Common.{All, w32, IsNumber}
use Rattle.totem_packets.specs.Fields.{above_at, rising_at}
use Rattle.totem_packets.proofs.Repeats.{IsReadTo}
use Rattle.totem_packets.proofs.read_lists.numbers.Given as goal

abbrev pub invariant-loop : goal.invariant-loop
invariant-loop l = record {
  so_far : IsReadTo (above_at w32) (λ n. n) l.numbers.items l.count l.counter l.last l.reader (rising_at (above_at w32) (λ n. n) l.count 0 l.fn.reader);
  each : All IsNumber l.numbers.items;
}
