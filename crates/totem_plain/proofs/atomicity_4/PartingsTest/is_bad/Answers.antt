use Rattle.std.proofs.Common.{refl}
use Rattle.totem_plain.proofs.Partings.{parting_told}
use Rattle.totem_plain.proofs.atomicity_4.PartingsTest.is_bad.Goals as goal

pub returns-then-goes_at : goal.returns-then-goes_at
returns-then-goes_at c = parting_told c.args.self.now.run.now.logs _ _ _ c.args._proc _ _ (rw c.requires.log at (c.if-goes_at.ensures.0 refl)) (rw c.requires.log at c.delivered_by.ensures)
