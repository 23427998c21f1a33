-- What is pending in one regular configuration.
use Rattle.std.specs.Prelude.{◌≡◌, ◌⊎◌, ◌↔◌, ℕ, ◌<◌, List, slice_get, Some, Contains}
use Rattle.totem_names.specs.declared.ring.RingId.{RingId}
use Rattle.totem_names.specs.declared.conf.ConfId.TheVariants.{Regular}
use Rattle.totem_names.specs.declared.message.MsgId.{MsgId}
use Rattle.totem_evs.specs.declared.log.Log.{Log}
use Rattle.totem_evs.specs.declared.pending.Pending.{Pending}
use Rattle.totem_evs.specs.Events.{WasSentIn, log_of}
use Rattle.totem_evs.specs.Following.{HasDelivered, OpenIn}
use Rattle.totem_judge_traffic.specs.declared.traffic.Sent.{Sent}
use Rattle.totem_judge_traffic.specs.declared.traffic.Traffic.{Traffic}
use Rattle.totem_judge_traffic.specs.LogSets.{Has}
use Rattle.totem_judge_traffic.specs.Traffics.{IsLogAt, IsTrafficOf}

-- q is open in c, and has not delivered m, which was sent there
pub record IsPendingIn (run : List Log) (c : RingId) (q : ℕ) (m : MsgId) : Type 0 where
  pub sent : WasSentIn run m (Regular c)
  pub still_open : OpenIn run q c
  pub missing : HasDelivered (log_of run q) c m → ⊥

-- m is one of the first messages that were sent, and the log does not deliver it
pub record IsMissingTo (sents : List Sent) (end log : ℕ) (m : MsgId) : Type 0 where
  pub at : ℕ
  pub sent : Sent
  pub before : at < end
  pub stands : slice_get sents at ≡ Some sent
  pub message : sent.message ≡ m
  pub missing : Has sent.by log → ⊥

-- the messages that q's log does not deliver were added to the list
pub record AddsMissing (sents : List Sent) (end log q : ℕ) (old new : List Pending) : Type 0 where
  pub exact : (x : Pending) → Contains new x ↔ (Contains old x ⊎ ((x.proc ≡ q) × IsMissingTo sents end log x.msg))

-- in each run with this traffic in c, what is pending in c for q, whose log this is, was added to the list
pub record AddsPending (traffic : Traffic) (log q : ℕ) (old new : List Pending) : Type 0 where
  pub exact : (run : List Log) (c : RingId) → IsTrafficOf run c traffic → IsLogAt run log q → (x : Pending) → Contains new x ↔ (Contains old x ⊎ ((x.proc ≡ q) × IsPendingIn run c q x.msg))
