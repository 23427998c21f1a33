use Rattle.totem_plain.proofs.Common.{refl, slice_get_read, denied}
use Rattle.totem_plain.proofs.Lacks.{lack_told}
use Rattle.totem_plain.proofs.gap_6_3.LacksTest.is_bad.Goals as goal

pub returns : goal.returns
returns c =
    let at = rw c.requires.log at (slice_get_read c.args.log.now _ c.args.at c.index-log-at.result refl c.requires.within c.index-log-at.is) in
    lack_told c.args.self.now.run.now.logs _ _ _ _ _ c.args._proc _ _ (rw c.in-Deliver.is at at) (rw c.requires.log at (c.if-not-delivers_in.ensures.0 refl)) (rw c.requires.log at (denied _ c.if-has_delivered.false c.has_delivered.ensures)) c.some_member.ensures
