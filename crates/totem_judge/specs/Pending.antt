-- What is pending in a run, according to the traffic of its configurations (docs/SPECIFICATIONS.md, "Pending and waiting").
use Rattle.std.specs.Prelude.{◌≡◌, ◌⊎◌, ◌↔◌, ℕ, ◌<◌, List, slice_get, Some, Contains}
use Rattle.totem_names.specs.declared.ring.RingId.{RingId}
use Rattle.totem_evs.specs.declared.log.Log.{Log}
use Rattle.totem_evs.specs.declared.pending.Pending.{Pending}
use Rattle.totem_judge_traffic.specs.declared.traffic.Traffic.{Traffic}
use Rattle.totem_judge_traffic.specs.Traffics.{IsLogAt, IsTrafficOf}
use Rattle.totem_judge_traffic.specs.Pending.{IsPendingIn}
use Rattle.totem_judge.specs.declared.gathered.Gathered.{Gathered}

-- x is pending in c, for the process of one of the first n logs
pub record IsPendingTo (run : List Log) (c : RingId) (n : ℕ) (x : Pending) : Type 0 where
  pub index : ℕ
  pub before : index < n
  pub log : IsLogAt run index x.proc
  pub is : IsPendingIn run c x.proc x.msg

-- if this is the traffic of c, what is pending there for the processes of the first n logs was added to the list
pub record AddsAll (traffic : Traffic) (run : List Log) (n : ℕ) (old new : List Pending) : Type 0 where
  pub exact : (c : RingId) → IsTrafficOf run c traffic → (x : Pending) → Contains new x ↔ (Contains old x ⊎ IsPendingTo run c n x)

-- x is pending in one of the first n configurations
pub record IsPendingFrom (run : List Log) (list : List Gathered) (n : ℕ) (x : Pending) : Type 0 where
  pub at : ℕ
  pub gathered : Gathered
  pub before : at < n
  pub stands : slice_get list at ≡ Some gathered
  pub is : IsPendingIn run gathered.ring x.proc x.msg
