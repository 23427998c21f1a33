use Rattle.std.proofs.Common.{refl}
use Rattle.totem_pass_d.proofs.Facts.{facts_of}
use Rattle.totem_pass_d.proofs.AtomicityFaults.{none_elsewhere, none_next, partner_here, next_is_short}
use Rattle.totem_pass_d.proofs.atomicity_4.PartingsFinder.find_in.Goals as goal

pub returns-then-not-changes_to : goal.returns-then-not-changes_to
returns-then-not-changes_to c =
    none_elsewhere _ _ _ c.args.stay.now _ c.args.self.now.conf.now _ _ _ (facts_of c.args.self.now.stays.now c.requires.known) c.requires.among c.span_of-change.ensures (λ h. let t = c.if-not-changes_to.ensures.1 h in cc)

pub returns-then-not-changes_to-2 : goal.returns-then-not-changes_to-2
returns-then-not-changes_to-2 c =
    none_next _ _ _ c.args.stay.now _ c.args.self.now.conf.now _ _ _ (facts_of c.args.self.now.stays.now c.requires.known) c.requires.among c.span_of-change.ensures (λ h. let t = c.if-not-changes_to-2.ensures.1 h in cc)

pub only-requires : goal.only-requires
only-requires c = next_is_short _ _ _ c.args.stay.now _ _ (facts_of c.args.self.now.stays.now c.requires.known) c.requires.among (c.if-not-changes_to-2.ensures.0 refl)

pub returns : goal.returns
returns c =
    partner_here _ _ _ c.args.stay.now _ c.args.self.now.conf.now _ _ _ _ (facts_of c.args.self.now.stays.now c.requires.known) c.requires.among c.span_of-change.ensures
    (c.if-not-changes_to.ensures.0 refl) (c.if-not-changes_to-2.ensures.0 refl) c.if-is_delivered.ensures.never c.in_ok-only.ensures
