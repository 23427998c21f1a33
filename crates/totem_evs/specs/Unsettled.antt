-- What a run leaves open (docs/SPECIFICATIONS.md, "Pending and waiting").
use Rattle.std.specs.Prelude.{◌≡◌, ◌↔◌, ◌⊎◌, ℕ, ◌<◌, List, AllPairs, Contains}
use Rattle.totem_names.specs.Orders.{MessageBelow, ConfBelow}
use Rattle.totem_names.specs.declared.ring.RingId.{RingId}
use Rattle.totem_names.specs.declared.conf.ConfId.{ConfId}
use Rattle.totem_names.specs.declared.conf.ConfId.TheVariants.{Regular}
use Rattle.totem_names.specs.declared.message.MsgId.{MsgId}
use Rattle.totem_evs.specs.declared.entry.Entry.{Entry}
use Rattle.totem_evs.specs.declared.log.Log.{Log}
use Rattle.totem_evs.specs.declared.pending.Pending.{Pending}
use Rattle.totem_evs.specs.declared.pending.Waiting.{Waiting}
use Rattle.totem_evs.specs.Events.{IsMember, WasSentIn, log_of}
use Rattle.totem_evs.specs.Following.{HasDelivered, NeverFails, LastChange, OpenIn}

-- q is open where m was sent, and has not delivered it
pub record IsPending (run : List Log) (q : ℕ) (m : MsgId) : Type 0 where
  pub ring : RingId
  pub sent : WasSentIn run m (Regular ring)
  pub still_open : OpenIn run q ring
  pub missing : HasDelivered (log_of run q) ring m → ⊥

-- the log has no failure, and its last change is to x
pub record EndsIn (log : List Entry) (x : ConfId) : Type 0 where
  pub goes_on : NeverFails log
  pub last : LastChange log x

-- p ends in x, and a member q of x does not: q failed, its last change is to another configuration, or it has none or no log
pub record IsWaiting (run : List Log) (p : ℕ) (x : ConfId) (q : ℕ) : Type 0 where
  pub stands : EndsIn (log_of run p) x
  pub member : IsMember run x q
  pub other : EndsIn (log_of run q) x → ⊥

-- by process, and then by message
abbrev pub PendingBelow : Pending → Pending → Type 0
PendingBelow a b = (a.proc < b.proc) ⊎ ((a.proc ≡ b.proc) × MessageBelow a.msg b.msg)

-- by process, then by configuration, and then by the other process
abbrev pub WaitingBelow : Waiting → Waiting → Type 0
WaitingBelow a b = (a.proc < b.proc) ⊎ ((a.proc ≡ b.proc) × ConfBelow a.conf b.conf) ⊎ ((a.proc ≡ b.proc) × (a.conf ≡ b.conf) × (a.other < b.other))

-- all that is pending, in ascending order
pub record ArePending (run : List Log) (list : List Pending) : Type 0 where
  pub rising : AllPairs PendingBelow list
  pub exact : (q : ℕ) (m : MsgId) → Contains list (record { proc = q; msg = m }) ↔ IsPending run q m

-- all processes that wait, and for whom, in ascending order
pub record AreWaiting (run : List Log) (list : List Waiting) : Type 0 where
  pub rising : AllPairs WaitingBelow list
  pub exact : (p : ℕ) (x : ConfId) (q : ℕ) → Contains list (record { proc = p; conf = x; other = q }) ↔ IsWaiting run p x q
