use Rattle.totem_evs.proofs.States.{state_entry}
use Rattle.totem_evs.proofs.part_reader.PartReader.add_entry.Goals as goal

pub returns : goal.returns
returns c =
    let limits = rw (← c.self.view_is) at c.requires.limits in
    let comes = rw (← c.self.view_is) at c.requires.comes in
    rw (← c.self.view_is) (state_entry _ _ _ _ c.args.entry.now limits comes c.pass_entry.ensures c.in_ok-note_entry.ensures.begun c.in_ok-note_entry.ensures.waiting)
