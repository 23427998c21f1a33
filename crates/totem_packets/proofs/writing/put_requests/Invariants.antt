use Rattle.totem_packets.proofs.Common.{◌≡◌, ◌++◌, take, length, w8, w32, flat_map}
use Rattle.totem_packets.specs.Spelling.{number_bytes}
use Rattle.totem_packets.proofs.writing.put_requests.Given as goal

abbrev pub invariant-loop-number : goal.invariant-loop-number
invariant-loop-number l = l.out.items ≡ l.fn.out.items ++ number_bytes w8 (length l.numbers) ++ flat_map (number_bytes w32) (take l.number-index l.numbers)
