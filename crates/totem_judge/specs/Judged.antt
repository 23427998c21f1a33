-- What is observed of the regular configurations of a run.
use Rattle.std.specs.Prelude.{◌≡◌, ◌↔◌, ℕ, List, length, slice_get, Some, Contains}
use Rattle.totem_names.specs.declared.ring.RingId.{RingId}
use Rattle.totem_evs.specs.declared.log.Log.{Log}
use Rattle.totem_evs.specs.declared.pending.Pending.{Pending}
use Rattle.totem_evs.specs.Answers.{MeetsPasses, IsRing}
use Rattle.totem_evs.specs.Certificates.{Numbering}
use Rattle.totem_evs.specs.Unsettled.{ArePending}
use Rattle.totem_judge_traffic.specs.declared.observed.Observed.{Observed}
use Rattle.totem_judge_traffic.specs.declared.traffic.Traffic.{Traffic}
use Rattle.totem_judge_traffic.specs.Clean.{ShowsAgreement}
use Rattle.totem_judge_traffic.specs.Traffics.{IsTrafficOf, AreTraffic}
use Rattle.totem_judge.specs.declared.gathered.Gathered.{Gathered}
use Rattle.totem_judge.specs.Seen.{IsSeen}
use Rattle.totem_judge.specs.Lists.{EachBelow}
use Rattle.totem_judge.specs.Pending.{AddsAll, IsPendingFrom}

-- the traffic of a configuration was verified
pub record IsVerified (run : List Log) (lines : List Numbering) (g : Gathered) (one : Observed) : Type 0 where
  pub ring : one.ring ≡ g.ring
  pub seen : IsSeen run lines g one.traffic

-- the traffic of a configuration was verified, and what is pending there was added to the list
pub record IsObserved (run : List Log) (lines : List Numbering) (g : Gathered) (one : Observed) (old new : List Pending) : Type 0 where
  pub verified : IsVerified run lines g one
  pub adds : AddsAll one.traffic run (length run) old new

-- what was verified for these configurations is their traffic
pub record AllAreTraffic (run : List Log) (lines : List Numbering) (list : List Gathered) : Type 0 where
  pub each : (k : ℕ) (g : Gathered) (traffic : Traffic) → slice_get list k ≡ Some g → IsSeen run lines g traffic → IsTrafficOf run g.ring traffic

-- the traffic of each of these configurations was verified, and the list has what is pending there
pub record AreObserved (run : List Log) (lines : List Numbering) (list : List Gathered) (observed : List Observed) (pending : List Pending) : Type 0 where
  pub long : length observed ≡ length list
  pub each : (k : ℕ) (g : Gathered) (one : Observed) → slice_get list k ≡ Some g → slice_get observed k ≡ Some one → IsVerified run lines g one
  pub exact : AllAreTraffic run lines list → (x : Pending) → Contains pending x ↔ IsPendingFrom run list (length list) x

-- the configuration of this ring is among those that were observed
pub record Covers (observed : List Observed) (c : RingId) : Type 0 where
  pub at : ℕ
  pub one : Observed
  pub stands : slice_get observed at ≡ Some one
  pub ring : one.ring ≡ c

-- the run meets the specifications of passes A and B, this is the traffic of all its regular configurations, and this is what is
-- pending
pub record IsView (run : List Log) (observed : List Observed) (pending : List Pending) : Type 0 where
  pub meets : MeetsPasses run
  pub traffic : AreTraffic run observed
  pub covers : (c : RingId) → IsRing run c → Covers observed c
  pub are : ArePending run pending

-- the rules of the configuration at this index are met
abbrev pub AgreesAt : List Observed → ℕ → Type 0
AgreesAt observed k = (one : Observed) → slice_get observed k ≡ Some one → ShowsAgreement one.traffic

-- the rules of all these configurations are met
abbrev pub Agree : List Observed → Type 0
Agree observed = EachBelow (AgreesAt observed) (length observed)
