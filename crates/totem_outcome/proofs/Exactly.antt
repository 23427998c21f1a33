-- An answer says whether the run is certified.
use Rattle.totem_outcome.proofs.Common.{List, Result, Ok, Err, inl, inr, refl, IsOk, ◌↔◌, Log, Numbering, Certified, Answers}
use Rattle.totem_outcome.specs.declared.certificate_fault.CertificateFault.{CertificateFault}
use Rattle.totem_outcome.specs.declared.certificate_fault.CertificateFault.TheVariants as faults

-- lines that are refused are no certificate
pub not_certified : (run : List Log) (lines : List Numbering) (f : CertificateFault) → Answers run lines (Err f) → Certified run lines → ⊥
not_certified run lines faults.Count h c = h c.matches
not_certified run lines faults.NotRising h c = (let falls = h.1 in falls.not_below (c.rises falls.first falls.later falls.is_first falls.is_later falls.before))
not_certified run lines faults.SendNotBefore h c = (let late = h.2 in late.not_below (c.sent late.send late.delivery late.message late.conf late.sends late.delivers))
not_certified run lines faults.TwinsDiffer h c = (let twins = h.3 in twins.differ (c.shared twins.one twins.other twins.class))
not_certified run lines faults.SharedPosition h c = (let share = h.4 in elim (c.apart share.one share.other share.is_one share.is_other share.shared) [ inl same ↦ share.different same | inr class ↦ share.apart class ])

-- the run is certified if and only if no fault is found
pub exactly : (run : List Log) (lines : List Numbering) (r : Result (Unit {0}) CertificateFault) → Answers run lines r → IsOk r ↔ Certified run lines
exactly run lines (Ok u) h = (λ ok. h, λ c. refl)
exactly run lines (Err f) h = (λ ok. absurd cc, λ c. absurd (not_certified run lines f h c))
