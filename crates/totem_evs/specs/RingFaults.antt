-- What it means that events break specifications 3 to 7 in one regular configuration c, and that the run meets them there
-- (docs/SPECIFICATIONS.md, "Passes").
use Rattle.std.specs.Prelude.{◌≡◌, ℕ, List, [], ◌∷◌}
use Rattle.totem_names.specs.declared.ring.RingId.{RingId}
use Rattle.totem_names.specs.declared.conf.ConfId.{ConfId}
use Rattle.totem_names.specs.declared.conf.ConfId.TheVariants.{Regular}
use Rattle.totem_names.specs.declared.message.MsgId.{MsgId}
use Rattle.totem_names.specs.declared.place.Place.{Place}
use Rattle.totem_evs.specs.declared.log.Log.{Log}
use Rattle.totem_evs.specs.declared.spec.SpecNo.{SpecNo}
use Rattle.totem_evs.specs.declared.spec.SpecNo.TheVariants as spec
use Rattle.totem_evs.specs.Events.{log_of}
use Rattle.totem_evs.specs.Steps.{SendsAt}
use Rattle.totem_evs.specs.Following.{Com}
use Rattle.totem_evs.specs.Places.{At}
use Rattle.totem_evs.specs.Agreement.{OwnDeliveryIn, NoGapsIn, SafetyIn, InstalledIn}
use Rattle.totem_evs.specs.RingAgreement.{IsHop, AtomicityIn, CausalityIn}
use Rattle.totem_evs.specs.AgreementFaults.{IsParted, IsNotDeliveredFirst, BreaksOwnDeliveryIn, BreaksGapIn, BreaksSafetyIn, BreaksInstalledIn}

-- 4: p's delivery, p's change to the next configuration, and q's
abbrev pub BreaksAtomicityIn : List Log → RingId → List Place → Type 0
BreaksAtomicityIn run c (e ∷ f ∷ g ∷ []) = At e (λ p i. At f (λ r j. At g (λ q k. (p ≡ r) × ((x : ConfId) × Com (log_of run p) c x × IsParted run x p i j q k))))
BreaksAtomicityIn run c _ = ⊥

-- f's sender sent or delivered e's message before, and r delivers the later message and not the earlier one before it
abbrev pub IsUncausedIn : List Log → RingId → Place → Place → ℕ → ℕ → Type 0
IsUncausedIn run c e f r j = (m n : MsgId) × SendsAt run e m (Regular c) × SendsAt run f n (Regular c) × IsHop run c m e f × IsNotDeliveredFirst run c m n r j

-- 5: both sends, and r's delivery of the later message
abbrev pub BreaksCausalityIn : List Log → RingId → List Place → Type 0
BreaksCausalityIn run c (e ∷ f ∷ g ∷ []) = At g (IsUncausedIn run c e f)
BreaksCausalityIn run c _ = ⊥

-- the places break the specification in c; no places do if it is not judged configuration by configuration
abbrev pub BreaksIn : List Log → RingId → SpecNo → List Place → Type 0
BreaksIn run c spec.OwnDelivery places = BreaksOwnDeliveryIn run c places
BreaksIn run c spec.Atomicity places = BreaksAtomicityIn run c places
BreaksIn run c spec.Causality places = BreaksCausalityIn run c places
BreaksIn run c spec.Gap places = BreaksGapIn run c places
BreaksIn run c spec.Safety places = BreaksSafetyIn run c places
BreaksIn run c spec.Installed places = BreaksInstalledIn run c places
BreaksIn run c _ places = ⊥

-- the run meets the specification in c; nothing is said of the other specifications
abbrev pub MeetsIn : List Log → RingId → SpecNo → Type 0
MeetsIn run c spec.OwnDelivery = OwnDeliveryIn run c
MeetsIn run c spec.Atomicity = AtomicityIn run c
MeetsIn run c spec.Causality = CausalityIn run c
MeetsIn run c spec.Gap = NoGapsIn run c
MeetsIn run c spec.Safety = SafetyIn run c
MeetsIn run c spec.Installed = InstalledIn run c
MeetsIn run c _ = ⊥
