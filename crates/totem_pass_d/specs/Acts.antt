-- What the processes sent and delivered in one regular configuration and in what follows it.
use Rattle.std.specs.Prelude.{◌≡◌, ℕ, List, slice_get, Some}
use Rattle.totem_names.specs.declared.ring.RingId.{RingId}
use Rattle.totem_names.specs.declared.conf.ConfId.TheVariants.{Regular}
use Rattle.totem_names.specs.declared.message.MsgId.{MsgId}
use Rattle.totem_evs.specs.declared.entry.Entry.{Entry}
use Rattle.totem_evs.specs.declared.entry.Entry.TheVariants.{Send}
use Rattle.totem_evs.specs.declared.log.Log.{Log}
use Rattle.totem_evs.specs.Events.{ChangesTo, WasSentIn, log_of}
use Rattle.totem_evs.specs.Following.{HasDelivered}
use Rattle.totem_pass_d.specs.declared.stays.Stay.{Stay}
use Rattle.totem_pass_d.specs.declared.stays.Sending.{Sending}

-- the stay is one of these
pub record IsAmong (stays : List Stay) (stay : Stay) : Type 0 where
  pub at : ℕ
  pub stands : slice_get stays at ≡ Some stay

-- p's log changes to c
abbrev pub HasCome : List Log → RingId → ℕ → Type 0
HasCome run c p = (i : ℕ) × ChangesTo (log_of run p) i (Regular c)

-- p's log never changes to c
pub record NeverComes (run : List Log) (c : RingId) (p : ℕ) : Type 0 where
  pub never : (i : ℕ) → ChangesTo (log_of run p) i (Regular c) → ⊥

-- the log delivers m neither in c nor in what follows it
pub record DeliversNot (log : List Entry) (c : RingId) (m : MsgId) : Type 0 where
  pub never : HasDelivered log c m → ⊥

-- this is a send of m in c
pub record IsSendingOf (run : List Log) (c : RingId) (m : MsgId) (sending : Sending) : Type 0 where
  pub sends : slice_get (log_of run sending.proc) sending.at ≡ Some (Send m (Regular c) sending.service)

-- no process sent m in c
pub record NobodySent (run : List Log) (c : RingId) (m : MsgId) : Type 0 where
  pub never : WasSentIn run m (Regular c) → ⊥
