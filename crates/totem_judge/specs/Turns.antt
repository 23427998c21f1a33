-- What follows a regular configuration in the stays of logs in it (docs/SPECIFICATIONS.md, "Following").
use Rattle.std.specs.Prelude.{◌≡◌, ℕ, ◌<◌, List, length, slice_get, Some}
use Rattle.totem_names.specs.declared.conf.ConfId.{ConfId}
use Rattle.totem_evs.specs.declared.log.Log.{Log}
use Rattle.totem_evs.specs.Events.{ChangesWith}
use Rattle.totem_judge_traffic.specs.declared.traffic.Following.{Following}
use Rattle.totem_judge_traffic.specs.LogSets.{Has}
use Rattle.totem_judge.specs.declared.gathered.Stay.{Stay}
use Rattle.totem_judge.specs.Ends.{Selects}
use Rattle.totem_judge.specs.Members.{AreMemberLogs}

-- the log of the stay moves on to x, with these members
pub record TurnsTo (run : List Log) (stay : Stay) (x : ConfId) (members : List ℕ) : Type 0 where
  pub log : Log
  pub stands : slice_get run stay.log ≡ Some log
  pub before : stay.turn < stay.end
  pub change : ChangesWith log.entries stay.turn x members

pub record TurnsNowhere (run : List Log) (stay : Stay) : Type 0 where
  pub never : (x : ConfId) (members : List ℕ) → TurnsTo run stay x members → ⊥

abbrev pub TurnsToConf : List Log → ConfId → Stay → Type 0
TurnsToConf run x stay = (members : List ℕ) × TurnsTo run stay x members

-- the log of the stay changes once more
pub record GoesFurther (run : List Log) (stay : Stay) : Type 0 where
  pub log : Log
  pub stands : slice_get run stay.log ≡ Some log
  pub end : stay.end < length log.entries

abbrev pub LeavesFrom : List Log → ConfId → Stay → Type 0
LeavesFrom run x stay = TurnsToConf run x stay × GoesFurther run stay

-- x, with these members, and the stays among the first n in which it follows
pub record IsFollowing (run : List Log) (stays : List Stay) (n : ℕ) (x : ConfId) (ms : List ℕ) (following : Following) : Type 0 where
  pub members : AreMemberLogs run ms following.members
  pub logs : Selects (TurnsToConf run x) stays n following.logs
  pub left : Selects (LeavesFrom run x) stays n following.left

-- the list has what follows in this log
pub record HasFollowingOf (run : List Log) (stays : List Stay) (list : List Following) (log : ℕ) : Type 0 where
  pub at : ℕ
  pub following : Following
  pub stands : slice_get list at ≡ Some following
  pub conf : ConfId
  pub members : List ℕ
  pub stay : Stay
  pub turns : TurnsTo run stay conf members
  pub is : IsFollowing run stays (length stays) conf members following
  pub has : Has following.logs log

-- the list has what follows in each of the first n stays
pub record HasFollowings (run : List Log) (stays : List Stay) (n : ℕ) (list : List Following) : Type 0 where
  pub each : (k : ℕ) (stay : Stay) (x : ConfId) (members : List ℕ) → k < n → slice_get stays k ≡ Some stay → TurnsTo run stay x members → HasFollowingOf run stays list stay.log
