-- The one closed list of a run whose events have no numbers (docs/SPECIFICATIONS.md, "Positions").
use Rattle.std.specs.Prelude.{◌≡◌, ◌≢◌, ◌⊎◌, ℕ, ◌+◌, ◌-◌, ◌<◌, ◌==◌, ◌&&◌, if◌then◌else◌, Bool, List, [], ◌∷◌, ◌++◌, length, drop, slice_get, Some}
use Rattle.totem_names.specs.declared.conf.ConfId.{ConfId}
use Rattle.totem_names.specs.declared.message.MsgId.{MsgId}
use Rattle.totem_names.specs.declared.place.Place.{Place}
use Rattle.totem_evs.specs.declared.log.Log.{Log}
use Rattle.totem_evs.specs.declared.fault.Fault.{Fault}
use Rattle.totem_evs.specs.declared.spec.SpecNo.{SpecNo}
use Rattle.totem_evs.specs.declared.spec.SpecNo.TheVariants as spec
use Rattle.totem_evs.specs.Events.{IsEvent}
use Rattle.totem_evs.specs.Steps.{SendsAt, DeliversAt}
use Rattle.totem_evs.specs.Places.{Somewhere}
use Rattle.totem_evs.specs.Faults.{Breaks}
use Rattle.totem_evs.specs.Classes.{IsAtMost, InClass, WaitsFor}

-- e gets a number eventually: all that its class waits for gets one
pub data Placed (run : List Log) : Place → Type 0 where
  placed : {e : Place} → ((g : Place) → WaitsFor run e g → Placed run g) → Placed run e

-- e is an event that never gets a number
pub record IsLeft (run : List Log) (e : Place) : Type 0 where
  pub event : IsEvent run e
  pub never : Placed run e → ⊥

-- e is the least of the events that are left
pub record IsLeastLeft (run : List Log) (e : Place) : Type 0 where
  pub left : IsLeft run e
  pub least : (f : Place) → IsLeft run f → IsAtMost e f

-- f is the entry just before e in its log, and is left
pub record IsPrevious (run : List Log) (f e : Place) : Type 0 where
  pub proc : f.proc ≡ e.proc
  pub before : f.at + 1 ≡ e.at
  pub left : IsLeft run f

-- f is a send of m that is left
pub record IsLeftSend (run : List Log) (f : Place) (m : MsgId) : Type 0 where
  pub conf : ConfId
  pub sends : SendsAt run f m conf
  pub left : IsLeft run f

-- e delivers a message, and f is the least send of it that is left
pub record IsLeastSend (run : List Log) (f e : Place) : Type 0 where
  pub message : MsgId
  pub delivers : DeliversAt run e message
  pub send : IsLeftSend run f message
  pub least : (g : Place) → IsLeftSend run g message → IsAtMost f g

-- f holds e up: f is the entry just before e and is left, or, if there is no such entry, f is the least such send
abbrev pub HoldsUp : List Log → Place → Place → Type 0
HoldsUp run f e = IsPrevious run f e ⊎ (((g : Place) → IsPrevious run g e → ⊥) × IsLeastSend run f e)

-- a step to the entry `to` from the one that holds it up
pub record Step : Type 0 where
  pub from : Place
  pub to : Place

-- the step at k's class: to the least entry of the class that something holds up
pub record IsStepOf (run : List Log) (k : Place) (step : Step) : Type 0 where
  pub shares : InClass run k step.to
  pub holds : HoldsUp run step.from step.to
  pub least : (f e : Place) → InClass run k e → HoldsUp run f e → IsAtMost step.to e

-- the steps of a walk: the first at the class of `start`, each further one at the class of what the step before came from
pub record IsWalk (run : List Log) (start : Place) (steps : List Step) : Type 0 where
  pub first : (v : Step) → slice_get steps 0 ≡ Some v → IsStepOf run start v
  pub next : (i : ℕ) (v w : Step) → slice_get steps i ≡ Some v → slice_get steps (i + 1) ≡ Some w → IsStepOf run v.from w
  -- no class occurs twice
  pub new : (i j : ℕ) (v w : Step) → slice_get steps i ≡ Some v → slice_get steps j ≡ Some w → i < j → InClass run v.to w.to → ⊥

-- the last step of the walk came from the class at which the one at `again` was
pub record ComesBack (run : List Log) (start : Place) (steps : List Step) (again : ℕ) (last : Step) : Type 0 where
  pub walk : IsWalk run start steps
  pub step : Step
  pub at_again : slice_get steps again ≡ Some step
  pub at_end : slice_get steps (length steps - 1) ≡ Some last
  pub comes_back : InClass run step.to last.from

-- e and f are one place
abbrev pub same_place : Place → Place → Bool
same_place e f = (e.proc == f.proc) && (e.at == f.at)

-- e, where it isn't f
abbrev pub unless : Place → Place → List Place
unless e f = if same_place e f then [] else e ∷ []

-- the steps of a walk in forward order, the last one first: for each, where it came from and where it led. An entry that
-- equals the one after it is left out; p is the entry after the whole list
abbrev pub forward : Place → List Step → List Place
forward p [] = []
forward p (v ∷ vs) = forward v.from vs ++ (v.from ∷ unless v.to p)

-- the turned list is the whole one, begun at another of its elements
pub record IsTurned (whole turned : List Place) : Type 0 where
  pub front : List Place
  pub back : List Place
  pub was : whole ≡ front ++ back
  pub is : turned ≡ back ++ front

-- no place in the list is before its first
abbrev pub BeginsLeast : List Place → Type 0
BeginsLeast [] = ⊥
BeginsLeast (e ∷ es) = (i : ℕ) (f : Place) → slice_get es i ≡ Some f → IsAtMost e f

-- e and f are different deliveries of one message
abbrev pub AreTwinDeliveries : List Log → Place → Place → Type 0
AreTwinDeliveries run e f = (m : MsgId) × DeliversAt run e m × DeliversAt run f m × (e ≢ f)

-- two neighbours of a closed list are such deliveries; its last and first element are neighbours too
abbrev pub HasTwinDeliveries : List Log → List Place → Type 0
HasTwinDeliveries run [] = ⊥
HasTwinDeliveries run (e ∷ es) = Somewhere (AreTwinDeliveries run) e es e

-- the specification that a closed list breaks: 6.1 where it has such neighbours, else 1.1
abbrev pub IsBrokenBy : List Log → SpecNo → List Place → Type 0
IsBrokenBy run k places = ((k ≡ spec.Order) × HasTwinDeliveries run places) ⊎ ((k ≡ spec.Cycle) × (HasTwinDeliveries run places → ⊥))

-- the closed list of the run: the steps of the walk that begins at the least event left, from the class that is reached
-- twice, in forward order, begun at the least place
pub record IsClosedList (run : List Log) (k : SpecNo) (places : List Place) : Type 0 where
  pub start : Place
  pub begins : IsLeastLeft run start
  pub steps : List Step
  pub again : ℕ
  pub last : Step
  pub back : ComesBack run start steps again last
  pub written : IsTurned (forward last.from (drop again steps)) places
  pub least : BeginsLeast places
  pub broken : IsBrokenBy run k places

-- the fault names the closed list and the specification that it breaks
pub record IsCycle (run : List Log) (fault : Fault) : Type 0 where
  pub list : IsClosedList run fault.spec fault.places
  pub breaks : Breaks run fault.spec fault.places
