-- 5, as lists of events that begin with a given one (docs/SPECIFICATIONS.md, "5 Causal delivery").
use Rattle.std.specs.Prelude.{List, [], ◌∷◌}
use Rattle.totem_names.specs.declared.ring.RingId.{RingId}
use Rattle.totem_names.specs.declared.conf.ConfId.TheVariants.{Regular}
use Rattle.totem_names.specs.declared.message.MsgId.{MsgId}
use Rattle.totem_names.specs.declared.place.Place.{Place}
use Rattle.totem_evs.specs.declared.log.Log.{Log}
use Rattle.totem_evs.specs.Steps.{SendsAt}
use Rattle.totem_evs.specs.RingAgreement.{IsHop}
use Rattle.totem_evs.specs.AgreementFaults.{IsNotDeliveredFirst}
use Rattle.totem_search.specs.Search.{IsOneEvent}

-- the send of an effect of what e sends, and a delivery of the effect without the cause before it
abbrev pub IsEffect : List Log → RingId → MsgId → Place → List Place → Type 0
IsEffect run c cause e [] = ⊥
IsEffect run c cause e (f ∷ rest) = (effect : MsgId) × SendsAt run f effect (Regular c) × IsHop run c cause e f × IsOneEvent (IsNotDeliveredFirst run c cause effect) rest
