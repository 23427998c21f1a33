-- What is pending, gathered configuration by configuration (docs/SPECIFICATIONS.md, "Pending and waiting").
use Rattle.std.specs.Prelude.{◌≡◌, ℕ, List}
use Rattle.totem_names.specs.declared.ring.RingId.{RingId}
use Rattle.totem_names.specs.declared.conf.ConfId.TheVariants.{Regular}
use Rattle.totem_evs.specs.declared.log.Log.{Log}
use Rattle.totem_evs.specs.declared.pending.Pending.{Pending}
use Rattle.totem_evs.specs.Events.{WasSentIn, log_of}
use Rattle.totem_evs.specs.Following.{HasDelivered, OpenIn}

-- x is pending in c
pub record IsPendingIn (run : List Log) (c : RingId) (x : Pending) : Type 0 where
  pub sent : WasSentIn run x.msg (Regular c)
  pub still_open : OpenIn run x.proc c
  pub missing : HasDelivered (log_of run x.proc) c x.msg → ⊥

-- x is pending in c, and its process is p
pub record IsPendingFor (run : List Log) (c : RingId) (p : ℕ) (x : Pending) : Type 0 where
  pub is : IsPendingIn run c x
  pub proc : x.proc ≡ p
