use Rattle.totem_evs.proofs.Weaker.{in_version}
use Rattle.totem_evs.proofs.lives.refusal.Goals as goal

pub returns-clause-none : goal.returns-clause-none
returns-clause-none c = in_version c.args.version c.args.logs.now c.in_default.ensures.none c.in_default-first_unsaid.ensures.none c.requires
