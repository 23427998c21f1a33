-- What a process is excused from is listed as pending (docs/SPECIFICATIONS.md, "Pending and waiting").
use Rattle.std.specs.Prelude.{ℕ, List, Contains}
use Rattle.totem_names.specs.declared.ring.RingId.{RingId}
use Rattle.totem_names.specs.declared.conf.ConfId.{ConfId}
use Rattle.totem_names.specs.declared.conf.ConfId.TheVariants.{Regular}
use Rattle.totem_names.specs.declared.message.MsgId.{MsgId}
use Rattle.totem_evs.specs.declared.log.Log.{Log}
use Rattle.totem_evs.specs.declared.pending.Pending.{Pending}
use Rattle.totem_evs.specs.Events.{Sends, Delivers, IsSafe, IsMember, log_of}
use Rattle.totem_evs.specs.Following.{Com, HasDelivered, FailedIn}
use Rattle.totem_evs.specs.Unsettled.{ArePending}
use Rattle.totem_evs.specs.Synchrony.{IsVirtuallySynchronous}

-- q has not delivered m in c or in what follows it, and did not fail there
pub record StillOwes (run : List Log) (q : ℕ) (c : RingId) (m : MsgId) : Type 0 where
  pub missing : HasDelivered (log_of run q) c m → ⊥
  pub goes_on : FailedIn (log_of run q) c → ⊥

-- 3: a process that still owes a message that it sent is listed as pending
abbrev pub SenderIsPending : Type 0
SenderIsPending = (run : List Log) (pending : List Pending) → IsVirtuallySynchronous run → ArePending run pending
    → (p i : ℕ) (m : MsgId) (c : RingId) → Sends (log_of run p) i m (Regular c)
    → StillOwes run p c m → Contains pending (record { proc = p; msg = m })

-- 7.1: a process that still owes a safe message delivered in a configuration of which it is a member is listed as pending
abbrev pub MemberIsPending : Type 0
MemberIsPending = (run : List Log) (pending : List Pending) → IsVirtuallySynchronous run → ArePending run pending
    → (c : RingId) (m : MsgId) (p i : ℕ) (d : ConfId) (q : ℕ) → IsSafe run m → Delivers (log_of run p) i m d → Com (log_of run p) c d → IsMember run d q
    → StillOwes run q c m → Contains pending (record { proc = q; msg = m })
