use Rattle.std.proofs.Common.{◌≡◌, ◌++◌, take}
use Rattle.totem_packets.proofs.short_list.ShortList.extend.Given as goal

abbrev pub invariant-loop-proc : goal.invariant-loop-proc
invariant-loop-proc l = l.self ≡ l.fn.self ++ take l.proc-index l.procs
