-- Specifications 3 to 7: what processes owe themselves and each other (docs/SPECIFICATIONS.md, "3 Self-delivery",
-- "4 Failure atomicity", "5 Causal delivery", "6 Total order", "7 Safe delivery"). 3, 6.3, 7.1 and 7.2 are stated for one regular
-- configuration c and what follows it in each log, and required of all of them.
use Rattle.std.specs.Prelude.{◌≡◌, ◌⊎◌, ℕ, ◌<◌, List}
use Rattle.totem_names.specs.declared.ring.RingId.{RingId}
use Rattle.totem_names.specs.declared.conf.ConfId.{ConfId}
use Rattle.totem_names.specs.declared.conf.ConfId.TheVariants.{Regular}
use Rattle.totem_names.specs.declared.message.MsgId.{MsgId}
use Rattle.totem_names.specs.declared.place.Place.{Place}
use Rattle.totem_evs.specs.declared.entry.Entry.{Entry}
use Rattle.totem_evs.specs.declared.log.Log.{Log}
use Rattle.totem_evs.specs.Events.{IsEvent, ChangesTo, Sends, Delivers, IsSafe, IsMember, log_of}
use Rattle.totem_evs.specs.Steps.{SendsAt, Precedes, SameClass}
use Rattle.totem_evs.specs.Following.{IsNextChange, Com, DeliversIn, HasDelivered, DeliversOrEnds}

-- 3, in c: each process delivers the messages that it sends in c
pub record OwnDeliveryIn (run : List Log) (c : RingId) : Type 0 where
  pub each : (p i : ℕ) (m : MsgId) → Sends (log_of run p) i m (Regular c) → DeliversOrEnds run p c m

-- 3
abbrev pub SelfDelivery : List Log → Type 0
SelfDelivery run = (c : RingId) → OwnDeliveryIn run c

-- the next change after a change to x is to d
abbrev pub Goes : List Entry → ConfId → ConfId → Type 0
Goes log x d = (i j : ℕ) × ChangesTo log i x × IsNextChange log i j × ChangesTo log j d

-- if p and q both go from x to d, q delivers in x what p delivers there
abbrev pub DeliverAlike : List Log → ℕ → ℕ → ConfId → ConfId → Type 0
DeliverAlike run p q x d = Goes (log_of run p) x d → Goes (log_of run q) x d
    → (i : ℕ) (m : MsgId) → Delivers (log_of run p) i m x → (j : ℕ) × Delivers (log_of run q) j m x

-- 4: processes that go from one configuration to the next together deliver the same messages in it
abbrev pub FailureAtomicity : List Log → Type 0
FailureAtomicity run = (p q : ℕ) (x d : ConfId) → DeliverAlike run p q x d

-- in c and in what follows it, each process that delivers n delivers m before it
abbrev pub IsDeliveredFirst : List Log → RingId → MsgId → MsgId → Type 0
IsDeliveredFirst run c m n = (r j : ℕ) → DeliversIn (log_of run r) c n j → (i : ℕ) × (i < j) × DeliversIn (log_of run r) c m i

-- 5: what was sent before a message is delivered before it
abbrev pub CausalDelivery : List Log → Type 0
CausalDelivery run = (c : RingId) (m n : MsgId) (e f : Place) → SendsAt run e m (Regular c) → SendsAt run f n (Regular c) → Precedes run e f
    → IsDeliveredFirst run c m n

-- a number for each event: smaller for an event that precedes, and the same for all events of a class
pub record Numbers (run : List Log) (ord : Place → ℕ) : Type 0 where
  pub rises : (e f : Place) → Precedes run e f → ord e < ord f
  pub shared : (e f : Place) → SameClass run e f → ord e ≡ ord f
  pub apart : (e f : Place) → IsEvent run e → IsEvent run f → ord e ≡ ord f → (e ≡ f) ⊎ SameClass run e f

-- 6.1: the events can be numbered in this way
abbrev pub HasTotalOrder : List Log → Type 0
HasTotalOrder run = (ord : Place → ℕ) × Numbers run ord

-- 6.3, in c: a process that delivers a later message also delivers the earlier one, if the sender of that one is still a member
pub record NoGapsIn (run : List Log) (c : RingId) : Type 0 where
  pub each : (m n : MsgId) (p i j q k : ℕ) (d : ConfId)
      → DeliversIn (log_of run p) c m i → DeliversIn (log_of run p) c n j → i < j
      → Delivers (log_of run q) k n d → Com (log_of run q) c d
      → (s l : ℕ) (x : ConfId) → Sends (log_of run s) l m x → IsMember run d s → HasDelivered (log_of run q) c m

-- 6.3
abbrev pub NoGaps : List Log → Type 0
NoGaps run = (c : RingId) → NoGapsIn run c

-- 7.1, in c: a safe message that is delivered reaches each member
pub record SafetyIn (run : List Log) (c : RingId) : Type 0 where
  pub each : (m : MsgId) (p i : ℕ) (d : ConfId) (q : ℕ) → IsSafe run m → Delivers (log_of run p) i m d → Com (log_of run p) c d
      → IsMember run d q → DeliversOrEnds run q c m

-- 7.2, in c: where a safe message is delivered in c, each member of c changes to c
pub record InstalledIn (run : List Log) (c : RingId) : Type 0 where
  pub each : (m : MsgId) (p i : ℕ) (q : ℕ) → IsSafe run m → Delivers (log_of run p) i m (Regular c)
      → IsMember run (Regular c) q → (j : ℕ) × ChangesTo (log_of run q) j (Regular c)

-- 7.1, 7.2
pub record SafeDelivery (run : List Log) : Type 0 where
  pub reaches : (c : RingId) → SafetyIn run c
  pub installed : (c : RingId) → InstalledIn run c
