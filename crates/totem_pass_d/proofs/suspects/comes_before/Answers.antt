use Rattle.totem_pass_d.proofs.Facts.{facts_of}
use Rattle.totem_pass_d.proofs.CausalityFaults.{comes_if_before, comes_late}
use Rattle.totem_pass_d.proofs.suspects.comes_before.Goals as goal

pub returns-in-Some-clause-there : goal.returns-in-Some-clause-there
returns-in-Some-clause-there c = comes_if_before _ _ c.args.receiver.now _ _ _ c.in-Some.ensures.found

pub returns-in-Some-clause-never : goal.returns-in-Some-clause-never
returns-in-Some-clause-never c = comes_late _ _ _ c.args.receiver.now _ _ _ (facts_of c.args.stays.now c.requires.known) c.in-Some.ensures.found

pub returns-in-None-clause-never : goal.returns-in-None-clause-never
returns-in-None-clause-never c = λ l lt delivers. c.in-None.ensures.none.never (l, delivers)
