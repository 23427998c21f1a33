use Rattle.totem_pass_d.proofs.Facts.{facts_of, delivery_short}
use Rattle.totem_pass_d.proofs.CausalityFaults.{none_undelivered, none_caused, uncaused_here}
use Rattle.totem_pass_d.proofs.causality_5.UncausedFinder.find_in.Goals as goal

pub returns-in_default : goal.returns-in_default
returns-in_default c =
    none_undelivered _ _ c.args.stay.now _ _ c.in_default.ensures.none

pub returns-then-comes_before : goal.returns-then-comes_before
returns-then-comes_before c =
    none_caused _ _ _ c.args.stay.now _ _ _ (facts_of c.args.self.now.stays.now c.requires.known) c.in-Some.ensures.found c.if-comes_before.ensures.there

pub returns : goal.returns
returns c =
    uncaused_here _ _ _ c.args.stay.now _ _ _ _ (facts_of c.args.self.now.stays.now c.requires.known) c.in-Some.ensures.found c.if-comes_before.ensures.never c.in_ok-only.ensures

pub only-requires : goal.only-requires
only-requires c = delivery_short _ _ _ c.args.stay.now _ _ (facts_of c.args.self.now.stays.now c.requires.known) c.requires.among c.in-Some.ensures.found
