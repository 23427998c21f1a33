use Rattle.totem_packets.proofs.Common.{All, IsCommitMember}
use Rattle.totem_packets.specs.Fields.{rising_at}
use Rattle.totem_packets.specs.Grammar.{member_at}
use Rattle.totem_packets.proofs.Repeats.{IsReadTo}
use Rattle.totem_packets.proofs.read_commit.member_list.Given as goal

abbrev pub invariant-loop : goal.invariant-loop
invariant-loop l = record {
  so_far : IsReadTo (member_at l.lives) (λ m. m.proc) l.list.items l.count l.counter l.last l.reader (rising_at (member_at l.lives) (λ m. m.proc) l.count 0 l.fn.reader);
  each : All IsCommitMember l.list.items;
}
