use Rattle.totem_packets.proofs.Common.{◌≡◌, ◌++◌, take, length, w8, flat_map}
use Rattle.totem_packets.specs.Spelling.{number_bytes, ring_bytes, round_number, member_bytes}
use Rattle.totem_packets.proofs.write_commit.put_commit.Given as goal

abbrev pub invariant-loop-member : goal.invariant-loop-member
invariant-loop-member l = l.out.items ≡ l.fn.out.items ++ ring_bytes l.token.ring ++ number_bytes w8 (round_number l.token.round) ++ number_bytes w8 (length l.members) ++ flat_map (member_bytes l.lives) (take l.member-index l.members)
