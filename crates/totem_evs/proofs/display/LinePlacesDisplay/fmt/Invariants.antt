use Rattle.totem_evs.proofs.Common.{take, known_text}
use Rattle.std.specs.Fmt.{HasWritten, IsPlainFormatter}
use Rattle.totem_evs.specs.ReportText.{places_text}
use Rattle.totem_evs.proofs.display.LinePlacesDisplay.fmt.Given as goal

abbrev pub invariant-loop-place : goal.invariant-loop-place
invariant-loop-place g l =
    IsPlainFormatter l.initial.f → HasWritten g.W.Write.write_str_gives l.initial.f (places_text known_text (take l.place-index l.place-items)) l.f
