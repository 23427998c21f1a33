use Rattle.totem_evs.proofs.roster.Roster.note_log.Goals as goal

pub returns-clause-waiting : goal.returns-clause-waiting
returns-clause-waiting c = rw (← c.self.view_is) c.remove.ensures
