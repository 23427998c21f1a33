use Rattle.totem_evs.proofs.run_reader.RunReader.next.Goals as goal

pub returns-in-None : goal.returns-in-None
returns-in-None g c = rw (← c.self.view_is) (rw c.in-None.is at c.in_ok-next.ensures.read)
