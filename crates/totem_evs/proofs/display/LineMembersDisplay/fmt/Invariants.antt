use Rattle.totem_evs.proofs.Common.{take, members_text, known_text}
use Rattle.std.specs.Fmt.{HasWritten, IsPlainFormatter}
use Rattle.totem_evs.proofs.display.LineMembersDisplay.fmt.Given as goal

abbrev pub invariant-loop-proc : goal.invariant-loop-proc
invariant-loop-proc g l =
    IsPlainFormatter l.initial.f → HasWritten g.W.Write.write_str_gives l.initial.f (members_text known_text (take l.proc-index l.proc-items)) l.f
