use Rattle.totem_packets.proofs.Common.{◌≡◌, ◌++◌, take, length, w8, w16, flat_map}
use Rattle.totem_packets.specs.Spelling.{number_bytes}
use Rattle.totem_packets.proofs.writing.put_process_set.Given as goal

abbrev pub invariant-loop-proc : goal.invariant-loop-proc
invariant-loop-proc l = l.out.items ≡ l.fn.out.items ++ number_bytes w8 (length l.procs) ++ flat_map (number_bytes w16) (take l.proc-index l.procs)
