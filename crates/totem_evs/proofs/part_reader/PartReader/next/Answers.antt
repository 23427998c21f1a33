use Rattle.totem_evs.proofs.Common.{arith, err_from_is_err_and}
use Rattle.totem_evs.proofs.PassedOn.{part_fault}
use Rattle.totem_evs.proofs.part_reader.PartReader.next.Goals.{in-None-least, in-Some-least}
use Rattle.totem_evs.proofs.part_reader.PartReader.next.Goals as goal

pub returns-after-least-clause-read : goal.returns-after-least-clause-read
returns-after-least-clause-read g c =
    let taken = rw c.in-None.is at c.in_ok-read_part.ensures.read in
    let comes = rw c.in-None.is at c.in_ok-read_part.ensures.comes in
    rw (← c.self.view_is) (elim c.match-least.branch [
      | in-None-least w ↦ rw w.result-is (record { taken = taken; comes = comes }, λ q has. (let h = rw w.in-None-least.ensures.none at has in absurd (omega (arith, h.1))))
      | in-Some-least w ↦ rw w.result-is (record { taken = taken; comes = comes }, w.written.ensures.0, rw (w.written.ensures.1) w.in-Some-least.ensures.some, λ q has. rw (w.written.ensures.1) (w.in-Some-least.ensures.least q has))
    ])

pub returns-in_err-read_part-clause-read : goal.returns-in_err-read_part-clause-read
returns-in_err-read_part-clause-read g c =
    let p = err_from_is_err_and c.from_residual.result c.from_residual.ensures.1 in
    rw (← c.self.view_is) (rw (p.1, p.2) (part_fault _ _ _ c.args.self.now _ c.in_err-read_part.ensures.read))
