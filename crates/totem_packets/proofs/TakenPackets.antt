-- A packet that is read is spelled so, and what is spelled so is read again.
use Rattle.totem_packets.proofs.Common.{◌≡◌, ℕ, List, ◌++◌, Ok, append_assoc, append-nil, arith, IsPacket}
use Rattle.totem_packets.specs.declared.fault.PacketFault.TheVariants.{Kind}
use Rattle.totem_packets.specs.declared.packet.Packet as packet
use Rattle.totem_packets.specs.declared.packet.Packet.TheVariants as packets
use Rattle.totem_packets.specs.declared.commit.CommitToken.{CommitToken}
use Rattle.totem_packets.specs.declared.lives.Lives.TheVariants.{Untold}
use Rattle.totem_packets.specs.Grammar.{message_packet_at, token_packet_at, join_packet_at, commit_packet_at, later_commit_packet_at, packet_of, packet_at}
use Rattle.totem_packets.specs.Spelling.{packet_bytes}
use Rattle.totem_packets.proofs.Taken.{IsTaking, Spells, gives_taking, fault_taking, bind_taking, kind_or, kind_taking, kind_again}
use Rattle.totem_packets.proofs.TakenMessages.{message_taking, message_again}
use Rattle.totem_packets.proofs.TakenTokens.{token_taking, token_again, join_taking, join_again}
use Rattle.totem_packets.proofs.GivenLives.{none_later, first_each}
use Rattle.totem_packets.proofs.TakenCommits.{commit_taking, commit_again, later_commit_taking, later_commit_again}

pub packet_taking : IsTaking (Spells packet_bytes IsPacket) packet_at
unfolding packet_at packet_of message_packet_at token_packet_at join_packet_at commit_packet_at later_commit_packet_at packet_bytes
packet_taking = bind_taking _ _ kind_taking (λ kind f.
    kind_or 1 kind _ _ (bind_taking _ _ message_taking (λ m fits. gives_taking _ (simp append-nil, fits))) (
    kind_or 2 kind _ _ (bind_taking _ _ token_taking (λ t fits. gives_taking _ (simp append-nil, fits))) (
    kind_or 3 kind _ _ (bind_taking _ _ join_taking (λ j fits. gives_taking _ (simp append-nil, fits))) (
    kind_or 4 kind _ _ (bind_taking _ _ (commit_taking Untold) (λ t fits. gives_taking _ (rw (none_later t.members fits.1) (simp append-nil), fits.0))) (
    kind_or 5 kind _ _ (bind_taking _ _ later_commit_taking (λ t fits. gives_taking _ (rw fits.1 (simp append-nil), fits.0))) (
    fault_taking Kind))))))

commit_packet_again : (t : CommitToken) (rest : List ℕ) → IsPacket (packets.Commit t) → packet_at (packet_bytes (packets.Commit t) ++ rest) ≡ Ok (packets.Commit t, rest)
unfolding packet_at packet_of commit_packet_at later_commit_packet_at packet_bytes
commit_packet_again t rest fits = grind (arith, append_assoc, kind_again, later_commit_again, commit_again, first_each)

pub packet_again : (p : packet.Packet) (rest : List ℕ) → IsPacket p → packet_at (packet_bytes p ++ rest) ≡ Ok (p, rest)
unfolding packet_at packet_of message_packet_at token_packet_at join_packet_at packet_bytes
packet_again p rest h = grind (arith, append_assoc, kind_again, message_again, token_again, join_again, commit_packet_again)
