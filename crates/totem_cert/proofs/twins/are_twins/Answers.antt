use Rattle.totem_cert.proofs.TwinSteps.{twins_decided}
use Rattle.totem_cert.proofs.twins.are_twins.Goals as goal

pub returns : goal.returns
returns c = twins_decided _ _ _ _ _ _ c.delivered-m.ensures.found c.delivered-m.ensures.none c.delivered-n.ensures.found c.delivered-n.ensures.none c.if-is_same.ensures c.both_are.ensures
