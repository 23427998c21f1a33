use Rattle.totem_weave.proofs.Underway.{counts_there}
use Rattle.totem_weave.proofs.weaver.Weaver.taken.Goals as goal

pub returns : goal.returns
returns c t at = counts_there c.args.tracks.now c.args.self.now c.args.place t c.index.result.now c.requires.under_way at c.index.ensures
