-- 4 and 5 in one regular configuration c and in what follows it in each log (docs/SPECIFICATIONS.md, "Passes"). 3, 6.3, 7.1 and 7.2
-- there are in Agreement.
use Rattle.std.specs.Prelude.{◌⊎◌, ℕ, ◌<◌, List}
use Rattle.totem_names.specs.declared.ring.RingId.{RingId}
use Rattle.totem_names.specs.declared.conf.ConfId.{ConfId}
use Rattle.totem_names.specs.declared.conf.ConfId.TheVariants.{Regular}
use Rattle.totem_names.specs.declared.message.MsgId.{MsgId}
use Rattle.totem_names.specs.declared.place.Place.{Place}
use Rattle.totem_evs.specs.declared.log.Log.{Log}
use Rattle.totem_evs.specs.Events.{IsBefore, Delivers, log_of}
use Rattle.totem_evs.specs.Steps.{SendsAt}
use Rattle.totem_evs.specs.Following.{Com}
use Rattle.totem_evs.specs.Agreement.{DeliverAlike, IsDeliveredFirst}
use Rattle.totem_evs.specs.Places.{At}

-- 4: processes that go from c, or from what follows it, to the same next configuration deliver the same messages there
pub record AtomicityIn (run : List Log) (c : RingId) : Type 0 where
  pub each : (p q : ℕ) (x d : ConfId) → Com (log_of run p) c x → DeliverAlike run p q x d

-- f's sender sent m at e before f, or delivered it in c before f
abbrev pub IsHop : List Log → RingId → MsgId → Place → Place → Type 0
IsHop run c m e f = IsBefore e f ⊎ At f (λ p j. (i : ℕ) × (i < j) × Delivers (log_of run p) i m (Regular c))

-- 5: what a process sent in c, or delivered there, before it sent a message there is delivered before that message
pub record CausalityIn (run : List Log) (c : RingId) : Type 0 where
  pub each : (m n : MsgId) (e f : Place) → SendsAt run e m (Regular c) → SendsAt run f n (Regular c) → IsHop run c m e f → IsDeliveredFirst run c m n
