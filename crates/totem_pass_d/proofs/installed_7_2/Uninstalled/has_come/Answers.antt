use Rattle.std.proofs.Common.{refl}
use Rattle.totem_pass_d.proofs.Facts.{facts_of}
use Rattle.totem_pass_d.proofs.installed_7_2.Uninstalled.has_come.Goals as goal

pub returns-in-Some : goal.returns-in-Some
returns-in-Some c =
    let s = c.args.self.now.stays.now in
    let is = (facts_of s c.requires).each c.in-Some.field-0.now c.in-Some.ensures.found in
    (λ t. rw (← c.in-Some.ensures.proc) (c.in-Some.field-0.now.from, is.is.change), λ h. refl)

pub returns-in-None : goal.returns-in-None
returns-in-None c = (λ t. absurd cc, λ h. absurd (c.in-None.ensures.none.never h.0 h.1))
