use Rattle.std.proofs.Common.{Err}
use Rattle.totem_table.proofs.NameLists.{searched}
use Rattle.totem_table.proofs.names.index_of.Goals as goal

pub returns-in-Ok-2 : goal.returns-in-Ok-2
returns-in-Ok-2 g c = absurd (searched g.N.Ord.cmp g.met.N.Ord.total g.met.N.Name.exact _ c.args.name.now (Err c.in-Ok.at) c.requires.sorted c.requires.there c.in-Ok.ensures.bound c.in-Ok.ensures.position)
