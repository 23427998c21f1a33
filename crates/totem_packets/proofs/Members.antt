-- What is read as the members of a commit token keeps their rules.
use Rattle.totem_packets.proofs.Common.{All, ◌≡◌, ℕ, ◌<◌, List, Ok, arith, w8, IsCommitMember, IsCommitMembers}
use Rattle.totem_packets.specs.declared.commit_member.CommitMember.{CommitMember}
use Rattle.totem_packets.specs.declared.lives.Lives.{Lives}
use Rattle.totem_packets.specs.Fields.{up_to_at, rising_at}
use Rattle.totem_packets.specs.Grammar.{member_at}
use Rattle.totem_packets.proofs.Chains.{pairs_rise}
use Rattle.totem_packets.proofs.Lists.{IsAbove, first_read, row_is, above_is, up_to_is}

pub member_above : (lives : Lives) (last : ℕ) (bytes : List ℕ) (m : CommitMember) (rest : List ℕ) → member_at lives last bytes ≡ Ok (m, rest) → last < m.proc
unfolding member_at
member_above lives last bytes m rest e = grind (arith, first_read, above_is)

pub members_above : (lives : Lives) → IsAbove (member_at lives) (λ m. m.proc)
members_above lives = record { above = λ last bytes y rest e. member_above lives last bytes y rest e }

pub are_members : (lives : Lives) (count : ℕ) (bytes mid : List ℕ) (members : List CommitMember) (rest : List ℕ) → up_to_at w8 32 bytes ≡ Ok (count, mid) → 0 < count → rising_at (member_at lives) (λ m. m.proc) count 0 mid ≡ Ok (members, rest) → All IsCommitMember members → IsCommitMembers members
are_members lives count bytes mid members rest e1 positive e2 each =
    let row = row_is (member_at lives) (λ m. m.proc) (members_above lives) count 0 mid members rest e2 in
    record { some = omega (arith, row.long); few = omega (arith, up_to_is w8 32 bytes count mid e1, row.long); rising = pairs_rise (λ m. m.proc) 0 members row.rises; each = each }
