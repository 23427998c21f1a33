use Rattle.totem_evs.proofs.Common.{◌≡◌, ◌-◌, length, Comes, seen}
use Rattle.totem_evs.specs.RunGrammar.{members_at}
use Rattle.totem_evs.proofs.RunLoops.{with_members}
use Rattle.totem_evs.proofs.Grown.{Rising}
use Rattle.totem_evs.proofs.lines.read_members.Given as goal

abbrev pub invariant-loop : goal.invariant-loop
invariant-loop g l =
    let known = seen g.S.Source.remaining g.S.Source.failures in
    record {
      so_far : Comes (known l.fn.source) (known l.source) (members_at l.version 32 0) (with_members l.version l.procs.items (32 - l.counter) l.last);
      count : length l.procs.items ≡ l.counter;
      rising : Rising l.procs.items l.last;
    }
