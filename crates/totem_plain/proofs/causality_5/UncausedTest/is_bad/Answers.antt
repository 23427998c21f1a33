use Rattle.std.proofs.Common.{refl}
use Rattle.totem_plain.proofs.Causes.{late_told}
use Rattle.totem_plain.proofs.causality_5.UncausedTest.is_bad.Goals as goal

pub returns-then-delivers_in : goal.returns-then-delivers_in
returns-then-delivers_in c = late_told c.args.self.now.run.now.logs _ _ _ c.args._proc _ _ (rw c.requires.log at (c.if-delivers_in.ensures.0 refl)) (rw c.requires.log at c.delivers_before.ensures)
