use Rattle.totem_recover.proofs.Common.{◌≡◌, take, ids_of}
use Rattle.totem_recover.proofs.lives.ids_of.Given as goal

abbrev pub invariant-loop-proc : goal.invariant-loop-proc
invariant-loop-proc l = l.ids.items ≡ ids_of (take l.proc-index l.procs)
