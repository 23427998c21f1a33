use Rattle.totem_search.proofs.Searching.{event_told}
use Rattle.totem_search.proofs.search.OneEventRelation.rest.Goals as goal

pub returns : goal.returns
returns g c = rw c.then_some.ensures (event_told (λ list. list.items) (g.T.Test.bad c.args.self.now.test.now) c.args.proc c.args.at c.is_bad.result c.new.result c.new.ensures.items c.is_bad.ensures)
