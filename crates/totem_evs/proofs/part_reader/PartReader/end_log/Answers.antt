use Rattle.totem_evs.proofs.States.{state_close}
use Rattle.totem_evs.proofs.part_reader.PartReader.end_log.Goals as goal

pub returns : goal.returns
returns c = rw (← c.self.view_is) (state_close _ _ c.args.ending (rw (← c.self.view_is) at c.requires.limits) (c.without_log-self-inside.ensures c.args.ending))
