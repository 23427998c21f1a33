use Rattle.totem_weave.proofs.Common.{take, AreTracksOf}
use Rattle.totem_weave.proofs.track.tracks_of.Given as goal

abbrev pub invariant-loop-proc : goal.invariant-loop-proc
invariant-loop-proc l = AreTracksOf l.fn.ring l.books (take l.proc-index l.members) l.tracks.items
