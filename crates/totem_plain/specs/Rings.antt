-- 4 and 6.3, as lists of events that begin with a given one (docs/SPECIFICATIONS.md, "4 Failure atomicity", "6 Total order").
use Rattle.std.specs.Prelude.{◌≡◌, ℕ, ◌<◌, List, [], ◌∷◌}
use Rattle.totem_names.specs.declared.ring.RingId.{RingId}
use Rattle.totem_names.specs.declared.conf.ConfId.{ConfId}
use Rattle.totem_names.specs.declared.message.MsgId.{MsgId}
use Rattle.totem_names.specs.declared.place.Place.{Place}
use Rattle.totem_evs.specs.declared.log.Log.{Log}
use Rattle.totem_evs.specs.declared.entry.Entry.{Entry}
use Rattle.totem_evs.specs.Events.{ChangesTo, Delivers, log_of}
use Rattle.totem_evs.specs.Following.{IsNextChange, Com, DeliversIn, HasDelivered}
use Rattle.totem_evs.specs.Places.{At}
use Rattle.totem_evs.specs.AgreementFaults.{GoesAt}
use Rattle.totem_search.specs.Search.{IsOneEvent}
use Rattle.totem_search.specs.Entries.{HasOne}
use Rattle.totem_plain.specs.Plain.{IsEntrySend, SomeMember}

-- the change at j is to d, and is the next one after that at i, to x
abbrev pub GoesFrom : List Entry → ConfId → ConfId → ℕ → ℕ → Type 0
GoesFrom log x d j i = ChangesTo log i x × IsNextChange log i j × ChangesTo log j d

-- the change at k, from x to d, is by a process that does not deliver m in x
abbrev pub IsParting : List Log → MsgId → ConfId → ConfId → ℕ → ℕ → Type 0
IsParting run m x d q k = GoesAt (log_of run q) x d k × ((l : ℕ) → Delivers (log_of run q) l m x → ⊥)

-- a change of p from x, and such a change to the same configuration
abbrev pub IsGoing : List Log → ℕ → MsgId → ConfId → List Place → Type 0
IsGoing run p m x [] = ⊥
IsGoing run p m x (f ∷ rest) = At f (λ r j. (p ≡ r) × ((d : ConfId) × GoesAt (log_of run r) x d j × IsOneEvent (IsParting run m x d) rest))

-- p sends the message
abbrev pub HasSent : List Log → MsgId → ℕ → Type 0
HasSent run m p = HasOne (IsEntrySend m) (log_of run p)

-- the entry delivers the later message where the earlier one's sender is a member, and its process never delivers the earlier one
abbrev pub IsLack : List Log → RingId → MsgId → MsgId → ℕ → ℕ → Type 0
IsLack run c earlier later q k = (d : ConfId) × Delivers (log_of run q) k later d × Com (log_of run q) c d × SomeMember (HasSent run earlier) run d × (HasDelivered (log_of run q) c earlier → ⊥)

-- p's delivery of a later message after i, and such an entry
abbrev pub IsLater : List Log → RingId → MsgId → ℕ → ℕ → List Place → Type 0
IsLater run c earlier p i [] = ⊥
IsLater run c earlier p i (f ∷ rest) = At f (λ r j. (p ≡ r) × (i < j) × ((later : MsgId) × DeliversIn (log_of run r) c later j × IsOneEvent (IsLack run c earlier later) rest))
