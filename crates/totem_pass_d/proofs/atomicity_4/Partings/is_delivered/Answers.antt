use Rattle.totem_pass_d.proofs.Facts.{facts_of, delivery_inside}
use Rattle.totem_pass_d.proofs.AtomicityFaults.{never_there, delivers_on_true, never_on_false, here_delivered}
use Rattle.totem_pass_d.proofs.atomicity_4.Partings.is_delivered.Goals as goal

pub returns-in_default-clause-never : goal.returns-in_default-clause-never
returns-in_default-clause-never c =
    never_there _ _ c.args.stay.now.proc _ _ c.in_default.ensures.none

pub returns-in-Deliver-clause-there : goal.returns-in-Deliver-clause-there
returns-in-Deliver-clause-there c =
    delivers_on_true _ _ c.args.stay.now _ _ _ _ _ c.is.result c.in-Some.ensures.found
    (rw c.in-Deliver.is at c.entry_in.ensures) c.is.ensures

pub returns-in-Deliver-clause-never : goal.returns-in-Deliver-clause-never
returns-in-Deliver-clause-never c =
    never_on_false _ _ _ c.args.stay.now _ _ _ _ _ c.is.result (facts_of c.args.self.now.stays.now c.requires.known) c.in-Some.ensures.found
    (rw c.in-Deliver.is at c.entry_in.ensures) c.is.ensures

pub returns-in_default-entry_in : goal.returns-in_default-entry_in
returns-in_default-entry_in c = record {
  there = tt;
  never = here_delivered _ _ c.args.stay.now _ _ _ _ c.in-Some.ensures.found c.entry_in.ensures c.in_default-entry_in.not-Deliver;
}

pub entry_in-requires-clause-inside : goal.entry_in-requires-clause-inside
entry_in-requires-clause-inside c = delivery_inside _ _ _ c.args.stay.now _ _ (facts_of c.args.self.now.stays.now c.requires.known) c.requires.among c.in-Some.ensures.found
