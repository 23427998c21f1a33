use Rattle.totem_packets.proofs.Common.{◌≤◌, length, All, w16, IsProcess}
use Rattle.totem_packets.specs.Fields.{above_at, rising_at}
use Rattle.totem_packets.proofs.Repeats.{IsReadTo}
use Rattle.totem_packets.proofs.read_lists.processes.Given as goal

abbrev pub invariant-loop : goal.invariant-loop
invariant-loop l = record {
  so_far : IsReadTo (above_at w16) (λ n. n) l.procs l.count l.counter l.last l.reader (rising_at (above_at w16) (λ n. n) l.count 0 l.fn.reader);
  each : All IsProcess l.procs;
  few : length l.procs ≤ l.counter;
}
