use Rattle.totem_evs.proofs.Common.{◌≡◌, take, process_text, members_text}
use Rattle.std.specs.String.{string_bytes}
use Rattle.totem_explain.proofs.event.spaced.Given as goal

abbrev pub invariant-loop-proc : goal.invariant-loop-proc
invariant-loop-proc l = string_bytes l.text ≡ members_text (process_text l.version) (take l.proc-index l.procs)
