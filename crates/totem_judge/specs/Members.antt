-- The members of a configuration, as logs.
use Rattle.std.specs.Prelude.{◌≡◌, ◌↔◌, ℕ, ◌<◌, IsTrue, List, length, slice_get, Some, Contains}
use Rattle.totem_evs.specs.declared.log.Log.{Log}
use Rattle.totem_judge_traffic.specs.declared.log_set.LogSet.{LogSet}
use Rattle.totem_judge_traffic.specs.declared.traffic.MemberLogs.{MemberLogs}
use Rattle.totem_judge_traffic.specs.LogSets.{Has}
use Rattle.totem_judge_traffic.specs.Traffics.{IsLogAt}

-- q has a log
pub record HasLog (run : List Log) (q : ℕ) : Type 0 where
  pub index : ℕ
  pub log : IsLogAt run index q

-- each of the first n members has a log
pub record AllHaveLogs (run : List Log) (members : List ℕ) (n : ℕ) : Type 0 where
  pub each : (k q : ℕ) → k < n → slice_get members k ≡ Some q → HasLog run q

-- the log is one of the first n, and a member's
pub record IsLogOfMember (run : List Log) (members : List ℕ) (n index : ℕ) : Type 0 where
  pub before : index < n
  pub log : Log
  pub stands : slice_get run index ≡ Some log
  pub member : Contains members log.proc

-- the set has those of the first n logs that are members'
pub record AreLogsOfMembers (run : List Log) (members : List ℕ) (n : ℕ) (set : LogSet) : Type 0 where
  pub exact : (index : ℕ) → Has set index ↔ IsLogOfMember run members n index

-- the logs are those of these members
pub record AreMemberLogs (run : List Log) (members : List ℕ) (found : MemberLogs) : Type 0 where
  pub logs : AreLogsOfMembers run members (length run) found.logs
  pub all : IsTrue found.all → AllHaveLogs run members (length members)
