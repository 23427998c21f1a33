use Rattle.totem_certificate.proofs.Common.{◌≡◌, ◌-◌, length, Comes, seen}
use Rattle.totem_certificate.specs.CertGrammar.{numbers_at}
use Rattle.totem_certificate.proofs.CertLoops.{with_numbers}
use Rattle.totem_certificate.proofs.GrownLines.{Numbered}
use Rattle.totem_certificate.proofs.reading.read_numbers.Given as goal

abbrev pub invariant-loop : goal.invariant-loop
invariant-loop g l =
    let known = seen g.S.Source.remaining g.S.Source.failures in
    record {
      so_far : Comes (known l.fn.source) (known l.source) (numbers_at 1000000) (with_numbers l.list.items (1000000 - l.counter));
      count : length l.list.items ≡ l.counter;
      numbered : Numbered l.list.items;
    }
