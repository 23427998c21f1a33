use Rattle.totem_evs.proofs.roster.Roster.least.Goals as goal

pub returns-clause-least : goal.returns-clause-least
returns-clause-least c = rw (← c.self.view_is) c.least.ensures.least
