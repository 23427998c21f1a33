use Rattle.totem_evs.proofs.Common.{◌≡◌, seen, IsReadState}
use Rattle.totem_evs.proofs.FoldedRun.{Folded}
use Rattle.totem_evs.proofs.Gathers.{parts_left}
use Rattle.totem_evs.proofs.reading.read_run.Given as goal

abbrev pub invariant-parts : goal.invariant-parts
invariant-parts g l =
    let known = seen g.S.Source.remaining g.S.Source.failures in
    Folded (known l.fn.source) (known l.source) l.parts l.logs × IsReadState l.parts × (l.parts.stage.version ≡ l.version)

abbrev pub decreases-parts : goal.decreases-parts
decreases-parts g l = parts_left l.parts.stage
