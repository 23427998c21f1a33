use Rattle.totem_evs.proofs.roster.Roster.note_entry.Goals as goal

pub returns-clause-waiting : goal.returns-clause-waiting
returns-clause-waiting c = rw c.in-Conf.is c.note_members.ensures.waiting
