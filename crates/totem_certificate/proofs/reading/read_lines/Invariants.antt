use Rattle.totem_certificate.proofs.Common.{◌≡◌, ◌-◌, length, Comes, seen, Two, lines_at}
use Rattle.totem_certificate.proofs.CertLoops.{with_lines}
use Rattle.totem_certificate.proofs.GrownLines.{RisingLines}
use Rattle.totem_certificate.proofs.reading.read_lines.Given as goal

abbrev pub invariant-lines : goal.invariant-lines
invariant-lines g l =
    let known = seen g.S.Source.remaining g.S.Source.failures in
    record {
      so_far : Comes (known l.fn.source) (known l.source) (lines_at l.version 33 0) (with_lines l.version l.lines.items (33 - l.count) l.last);
      count_is : length l.lines.items ≡ l.count;
      rising : RisingLines Two l.lines.items l.last;
    }
