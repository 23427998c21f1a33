use Rattle.totem_judge.proofs.following.turns_to.Goals as goal

pub returns-in-None : goal.returns-in-None
returns-in-None c = (λ told. absurd cc, λ h. absurd (c.in-None.ensures.none.never c.args.conf.now h.0 h.1))
