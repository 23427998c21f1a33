use Rattle.totem_plain.proofs.Common.{refl, slice_get_read}
use Rattle.totem_plain.proofs.Alone.{reached_told}
use Rattle.totem_plain.proofs.safety_7_1.NotReachedTest.is_bad.Goals as goal

pub returns : goal.returns
returns c =
    let at = slice_get_read c.args.log.now _ c.args.at c.index-log-at.result refl c.requires.within c.index-log-at.is in
    reached_told c.args.self.now.run.now.logs c.args.self.now.ring.now c.args._proc c.args.at c.index-log-at.result _ (rw c.requires.log at at) (rw c.requires.log at c.is_unreached.ensures)
