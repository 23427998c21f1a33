-- Classes of entries, and what a class waits for (docs/SPECIFICATIONS.md, "Positions").
use Rattle.std.specs.Prelude.{◌≡◌, ◌⊎◌, ◌<◌, ◌≤◌, List}
use Rattle.totem_names.specs.declared.place.Place.{Place}
use Rattle.totem_evs.specs.declared.entry.Entry.{Entry}
use Rattle.totem_evs.specs.declared.entry.Entry.TheVariants.{Conf, Send, Deliver}
use Rattle.totem_evs.specs.declared.log.Log.{Log}
use Rattle.totem_evs.specs.Events.{IsEvent}
use Rattle.totem_evs.specs.Steps.{Strict, SameClass}

-- changes to one configuration, or deliveries of one message
abbrev pub AreOfOneClass : Entry → Entry → Type 0
AreOfOneClass (Conf x ms) (Conf y ns) = x ≡ y
AreOfOneClass (Deliver m x) (Deliver n y) = m ≡ n
AreOfOneClass _ _ = ⊥

-- a send and a delivery of its message
abbrev pub AreSendAndDelivery : Entry → Entry → Type 0
AreSendAndDelivery (Send m x service) (Deliver n y) = m ≡ n
AreSendAndDelivery _ _ = ⊥

-- e is f or is before it: by process, then by entry
abbrev pub IsAtMost : Place → Place → Type 0
IsAtMost e f = (e.proc < f.proc) ⊎ ((e.proc ≡ f.proc) × (e.at ≤ f.at))

-- f is in e's class: it is e, or changes to the same configuration, or delivers the same message
abbrev pub InClass : List Log → Place → Place → Type 0
InClass run e f = (IsEvent run e × (e ≡ f)) ⊎ SameClass run e f

-- e's class waits for g: g is before an entry of the class in its log, or sends the message that the class delivers
pub record WaitsFor (run : List Log) (e g : Place) : Type 0 where
  pub member : Place
  pub shares : InClass run e member
  pub step : Strict run g member

-- the least place of e's class is at most that of f's
pub record ClassAtMost (run : List Log) (e f : Place) : Type 0 where
  pub least : Place
  pub shares : InClass run e least
  pub below : (g : Place) → InClass run f g → IsAtMost least g
