use Rattle.totem_judge_run.proofs.Common.{refl, slice_get_read}
use Rattle.totem_search.proofs.Pairing.{entry_told}
use Rattle.totem_search.proofs.pairs.PartnersTest.is_bad.Goals as goal

pub returns : goal.returns
returns g c =
    let s = c.args.self.now in
    let at = slice_get_read c.args.log.now _ c.args.at c.index-log-at.result refl c.requires.within c.index-log-at.is in
    entry_told (g.T.OneOrTwoTest.of s.test.now) (g.T.OneOrTwoTest.pair s.test.now s.first.proc s.first.at s.first.entry.now) c.args.proc c.args.at c.index-log-at.result _ (rw c.requires.log at at) c.is_pair.ensures
