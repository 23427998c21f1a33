-- 4 and 6.3, in the form in which they are searched (docs/SPECIFICATIONS.md, "4 Failure atomicity", "6 Total order", "Passes").
use Rattle.std.specs.Prelude.{◌≡◌, ℕ, List, ◌<◌, ◌≤◌, [], ◌∷◌, ◌↔◌, ◌⊎◌, Bool, IsTrue, length, slice_get, Some}
use Rattle.totem_names.specs.declared.ring.RingId.{RingId}
use Rattle.totem_names.specs.declared.conf.ConfId.{ConfId}
use Rattle.totem_names.specs.declared.conf.ConfId.TheVariants.{Regular, Transitional}
use Rattle.totem_names.specs.declared.message.MsgId.{MsgId}
use Rattle.totem_evs.specs.declared.entry.Entry.{Entry}
use Rattle.totem_evs.specs.declared.log.Log.{Log}
use Rattle.totem_evs.specs.Events.{IsChange, Sends, Delivers, log_of, IsMember}
use Rattle.totem_evs.specs.Following.{Com, DeliversIn, HasDelivered}
use Rattle.totem_evs.specs.AgreementFaults.{GoesAt}
use Rattle.totem_search.specs.Search.{IsOneEvent}
use Rattle.totem_pass_d.specs.declared.stays.Stay.{Stay}
use Rattle.totem_pass_d.specs.declared.gap_6_3.Last.{Last}
use Rattle.totem_names.specs.declared.place.Place.{Place}
use Rattle.totem_evs.specs.Changes.{Names}
use Rattle.totem_evs.specs.Places.{At}
use Rattle.totem_pass_d.specs.Acts.{IsAmong}

-- ---- 4: the processes that go with a process to its next configuration without a message

-- at any index of a stay
abbrev pub IsAnywhere : Stay → ℕ → Type 0
IsAnywhere stay i = Unit {0}

-- the index at which a stay changes to x, which is c or what follows it, and the index of the next change or of the end
abbrev pub IsSpan : ConfId → Stay → ℕ → ℕ → Type 0
IsSpan (Regular c) stay change next = (change ≡ stay.from) × (next ≡ stay.turn)
IsSpan (Transitional least ring) stay change next = (change ≡ stay.turn) × (next ≡ stay.end)

-- there is no change at the index
pub record IsNoChange (log : List Entry) (i : ℕ) : Type 0 where
  pub none : IsChange log i → ⊥

-- if x is c or follows it, the log never delivers m in x
pub record NeverDelivers (log : List Entry) (c : RingId) (m : MsgId) (x : ConfId) : Type 0 where
  pub never : Com log c x → (l : ℕ) → Delivers log l m x → ⊥

-- the change at k, from x to d, is by a process that does not deliver m in x
abbrev pub IsPartner : List Log → RingId → MsgId → ConfId → ConfId → ℕ → ℕ → Type 0
IsPartner run c m x d q k = Com (log_of run q) c x × GoesAt (log_of run q) x d k × ((l : ℕ) → Delivers (log_of run q) l m x → ⊥)

-- ---- 6.3: a delivery, a later one of the same log, and a delivery of the later message by a process that lacks the earlier one

-- the entry delivers the later message where the sender is a member, and its process never delivers the earlier one
abbrev pub IsLack : List Log → RingId → ℕ → MsgId → MsgId → ℕ → ℕ → Type 0
IsLack run c sender earlier later q k = (d : ConfId) × Delivers (log_of run q) k later d × Com (log_of run q) c d × IsMember run d sender
    × (HasDelivered (log_of run q) c earlier → ⊥)

-- a delivery of a later message after i, and such an entry
abbrev pub IsLater : List Log → RingId → ℕ → MsgId → ℕ → List Place → Type 0
IsLater run c sender earlier i [] = ⊥
IsLater run c sender earlier i (f ∷ rest) = At f (λ p j. (i < j) × ((later : MsgId) × DeliversIn (log_of run p) c later j × IsOneEvent (IsLack run c sender earlier later) rest))

-- the test says whether q is a member of the configuration that the entry at i names
pub record TellsMember (run : List Log) (log : List Entry) (i q : ℕ) (test : Bool) : Type 0 where
  pub each : (x : ConfId) → Names log i x → IsTrue test ↔ IsMember run x q

-- if p delivers something at j, q does not deliver it before the index until
pub record IsApart (run : List Log) (c : RingId) (p q until j : ℕ) : Type 0 where
  pub never : (n : MsgId) (k : ℕ) → DeliversIn (log_of run p) c n j → k < until → DeliversIn (log_of run q) c n k → ⊥

-- before the index until q delivers nothing that p delivers after i
pub record IsBeyond (run : List Log) (c : RingId) (p q until i : ℕ) : Type 0 where
  pub each : (j : ℕ) → i < j → IsApart run c p q until j

-- p delivers nothing after i that the process of the stay delivers at k
pub record IsPassed (run : List Log) (c : RingId) (p : ℕ) (stay : Stay) (k i : ℕ) : Type 0 where
  pub never : (n : MsgId) (j : ℕ) → i < j → DeliversIn (log_of run p) c n j → DeliversIn (log_of run stay.proc) c n k → ⊥

-- p delivers nothing after i that the process of the stay delivers from its turn on and before end
pub record HasPassed (run : List Log) (c : RingId) (p : ℕ) (stay : Stay) (end i : ℕ) : Type 0 where
  pub each : (k : ℕ) → stay.turn ≤ k → k < end → IsPassed run c p stay k i

-- p delivers nothing after `regular` that the process of the stay delivers before its turn, and nothing after `following` that it
-- delivers from its turn on
pub record IsLast (run : List Log) (c : RingId) (p : ℕ) (stay : Stay) (last : Last) : Type 0 where
  pub regular : IsBeyond run c p stay.proc stay.turn last.regular
  pub following : HasPassed run c p stay stay.end last.following

-- such indices for each stay
pub record AreLasts (run : List Log) (c : RingId) (stays : List Stay) (p : ℕ) (lasts : List Last) : Type 0 where
  pub long : length stays ≡ length lasts
  pub each : (k : ℕ) (stay : Stay) (last : Last) → slice_get stays k ≡ Some stay → slice_get lasts k ≡ Some last → IsLast run c p stay last

-- p delivers at j a message that the process of the stay delivers, in c or what follows it, where a sender of m is a member
abbrev pub IsAhead : List Log → RingId → ℕ → MsgId → Stay → ℕ → Type 0
IsAhead run c p m stay j = (n : MsgId) × (d x : ConfId) × (k s l : ℕ) × DeliversIn (log_of run p) c n j
    × Delivers (log_of run stay.proc) k n d × Com (log_of run stay.proc) c d × Sends (log_of run s) l m x × IsMember run d s

-- the process of the stay delivers m or, where a sender of m is a member, delivers nothing that p delivers after i
abbrev pub KeepsUp : List Log → RingId → ℕ → MsgId → ℕ → Stay → Type 0
KeepsUp run c p m i stay = HasDelivered (log_of run stay.proc) c m ⊎ ((j : ℕ) → i < j → IsAhead run c p m stay j → ⊥)

-- the process of each stay keeps up
pub record AllKeepUp (run : List Log) (c : RingId) (stays : List Stay) (p : ℕ) (m : MsgId) (i : ℕ) : Type 0 where
  pub each : (stay : Stay) → IsAmong stays stay → KeepsUp run c p m i stay
