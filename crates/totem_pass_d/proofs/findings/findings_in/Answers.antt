use Rattle.totem_pass_d.proofs.Facts.{facts_of}
use Rattle.totem_pass_d.proofs.EventFaults.{owned_alone, safety_alone, installed_alone}
use Rattle.totem_pass_d.proofs.findings.findings_in.Goals as goal

pub least_event-requires-clause-alone : goal.least_event-requires-clause-alone
least_event-requires-clause-alone c = owned_alone _ _ _ (facts_of c.args.stays.now c.requires.known)

pub least_event-requires-2-clause-alone : goal.least_event-requires-2-clause-alone
least_event-requires-2-clause-alone c = safety_alone _ _ _ (facts_of c.args.stays.now c.requires.known)

pub least_event-requires-3-clause-alone : goal.least_event-requires-3-clause-alone
least_event-requires-3-clause-alone c = installed_alone _ _ _ (facts_of c.args.stays.now c.requires.known)
