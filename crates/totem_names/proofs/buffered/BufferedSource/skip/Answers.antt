use Rattle.totem_names.proofs.AtHand.{held_skip}
use Rattle.totem_names.proofs.buffered.BufferedSource.skip.Goals as goal

pub returns-clause-skipped : goal.returns-clause-skipped
returns-clause-skipped g c = λ _. held_skip _ _ _ _ (g.R.Read.remaining c.args.self.now.inner) c.args.self.now.room c.if-count-self.false
