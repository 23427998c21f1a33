-- What the entries of a run give, as lists (docs/SPECIFICATIONS.md, "Passes", "Pending and waiting").
use Rattle.std.specs.Prelude.{◌≡◌, ◌↔◌, ℕ, List, AllPairs, Contains, Option, Some, None, slice_get}
use Rattle.std.specs.declared.cmp.Ordering.{Ordering}
use Rattle.std.specs.declared.cmp.Ordering.TheVariants.{Less}
use Rattle.totem_names.specs.declared.ring.RingId.{RingId}
use Rattle.totem_names.specs.declared.conf.ConfId.{ConfId}
use Rattle.totem_names.specs.declared.conf.ConfId.TheVariants.{Regular}
use Rattle.totem_names.specs.declared.message.MsgId.{MsgId}
use Rattle.totem_evs.specs.declared.entry.Entry.{Entry}
use Rattle.totem_evs.specs.declared.entry.Entry.TheVariants.{Conf, Send}
use Rattle.totem_evs.specs.declared.log.Log.{Log}
use Rattle.totem_evs.specs.declared.pending.Pending.{Pending}
use Rattle.totem_evs.specs.declared.pending.Waiting.{Waiting}
use Rattle.totem_evs.specs.Events.{log_of}
use Rattle.totem_evs.specs.Following.{HasDelivered, OpenIn}
use Rattle.totem_evs.specs.Unsettled.{EndsIn}
use Rattle.totem_evs.specs.Missing.{HasLog}
use Rattle.totem_search.specs.Entries.{SomeLog}

-- the elements of a list in ascending order, each once
pub record IsInOrder {T : Type 0} (cmp : T → T → Ordering) (list ordered : List T) : Type 0 where
  pub rising : AllPairs (λ a b. cmp a b ≡ Less) ordered
  pub same : (x : T) → Contains ordered x ↔ Contains list x

-- all that the entries give for the processes that have a log, in ascending order
pub record AreListed {T : Type 0} (cmp : T → T → Ordering) (Gives : ℕ → Entry → T → Type 0) (run : List Log) (list : List T) : Type 0 where
  pub rising : AllPairs (λ a b. cmp a b ≡ Less) list
  pub exact : (x : T) → Contains list x ↔ ((p : ℕ) × HasLog run p × SomeLog (λ e. Gives p e x) run)

-- the ring of a change to a regular configuration
abbrev pub ring_of : Entry → Option RingId
ring_of (Conf (Regular c) members) = Some c
ring_of _ = None

abbrev pub GivesRing : Entry → RingId → Type 0
GivesRing e c = ring_of e ≡ Some c

-- what is sent in a regular configuration, and in which
abbrev pub sent_in : Entry → Option (RingId × MsgId)
sent_in (Send m (Regular c) service) = Some (c, m)
sent_in _ = None

-- p is open in c, and has not delivered m
pub record Misses (run : List Log) (p : ℕ) (c : RingId) (m : MsgId) : Type 0 where
  pub still_open : OpenIn run p c
  pub missing : HasDelivered (log_of run p) c m → ⊥

-- a send of what is pending for p
abbrev pub GivesPending : List Log → ℕ → Entry → Pending → Type 0
GivesPending run p e x = (c : RingId) × (sent_in e ≡ Some (c, x.msg)) × (x.proc ≡ p) × Misses run p c x.msg

-- p ends in x, and waits for q, which does not
pub record WaitsFor (run : List Log) (p : ℕ) (x : ConfId) (q : ℕ) (w : Waiting) : Type 0 where
  pub proc : w.proc ≡ p
  pub conf : w.conf ≡ x
  pub other : w.other ≡ q
  pub stands : EndsIn (log_of run p) x
  pub elsewhere : EndsIn (log_of run q) x → ⊥

-- a change that lists a process for which p waits
abbrev pub GivesWaiting : List Log → ℕ → Entry → Waiting → Type 0
GivesWaiting run p (Conf x members) w = (i q : ℕ) × (slice_get members i ≡ Some q) × WaitsFor run p x q w
GivesWaiting run p _ w = ⊥
