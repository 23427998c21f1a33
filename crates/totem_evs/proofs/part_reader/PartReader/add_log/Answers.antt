use Rattle.totem_evs.proofs.States.{state_log}
use Rattle.totem_evs.proofs.part_reader.PartReader.add_log.Goals as goal

pub returns : goal.returns
returns c =
    let limits = rw (← c.self.view_is) at c.requires.limits in
    let comes = rw (← c.self.view_is) at c.requires.comes in
    rw (← c.self.view_is) (state_log _ _ _ _ c.args.proc limits comes c.with_log-self-inside.ensures c.in_ok-note_log.ensures.begun c.in_ok-note_log.ensures.waiting)
