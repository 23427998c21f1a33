-- What was verified about the traffic gathered for one regular configuration.
use Rattle.std.specs.Prelude.{◌≡◌, ℕ, ◌<◌, List, length, slice_get, Some}
use Rattle.totem_names.specs.declared.conf.ConfId.{ConfId}
use Rattle.totem_evs.specs.declared.log.Log.{Log}
use Rattle.totem_evs.specs.Events.{ChangesWith}
use Rattle.totem_evs.specs.Certificates.{Numbering}
use Rattle.totem_outcome.specs.Rising.{RisesBefore}
use Rattle.totem_judge_traffic.specs.declared.log_set.LogSet.{LogSet}
use Rattle.totem_judge_traffic.specs.declared.traffic.MemberLogs.{MemberLogs}
use Rattle.totem_judge_traffic.specs.declared.traffic.Traffic.{Traffic}
use Rattle.totem_judge.specs.declared.gathered.Gathered.{Gathered}
use Rattle.totem_judge.specs.declared.gathered.Stay.{Stay}
use Rattle.totem_judge.specs.StaysIn.{IsBounded}
use Rattle.totem_judge.specs.Ends.{AreEnds}
use Rattle.totem_judge.specs.Members.{AreMemberLogs}
use Rattle.totem_judge.specs.Turns.{HasFollowings}
use Rattle.totem_judge.specs.Lists.{EachBelow, IsSentAt, IsGotAt, AreAsListed, AreSentIn}

-- the stay is one of its log, begins with the number of the configuration, and its entries agree with the lists
pub record IsReplayed (run : List Log) (lines : List Numbering) (g : Gathered) (stay : Stay) : Type 0 where
  pub log : Log
  pub line : Numbering
  pub log_is : slice_get run stay.log ≡ Some log
  pub line_is : slice_get lines stay.log ≡ Some line
  pub bounded : IsBounded log.entries g.ring stay
  pub number : slice_get line.numbers stay.from ≡ Some g.number
  pub are : AreAsListed log.entries line.numbers g stay stay.end (length g.got.items)
  pub sends : AreSentIn log.entries line.numbers g stay (length g.sent.items)

-- so do the first n stays
pub record AreReplayed (run : List Log) (lines : List Numbering) (g : Gathered) (n : ℕ) : Type 0 where
  pub each : (k : ℕ) (stay : Stay) → k < n → slice_get g.stays.items k ≡ Some stay → IsReplayed run lines g stay

-- the lists have what was sent and delivered in the stays
pub record AreTrue (run : List Log) (lines : List Numbering) (g : Gathered) (logs : LogSet) : Type 0 where
  pub got_rise : RisesBefore g.got_numbers.items (length g.got_numbers.items)
  pub sent_rise : RisesBefore g.sent_numbers.items (length g.sent_numbers.items)
  pub sent : EachBelow (IsSentAt g logs) (length g.sent.items)
  pub got : EachBelow (IsGotAt g logs) (length g.got.items)
  pub replayed : AreReplayed run lines g (length g.stays.items)

-- the members are those of the configuration in which one of the stays begins
pub record HasMembers (run : List Log) (stays : List Stay) (found : MemberLogs) : Type 0 where
  pub at : ℕ
  pub stay : Stay
  pub stands : slice_get stays at ≡ Some stay
  pub log : Log
  pub log_is : slice_get run stay.log ≡ Some log
  pub conf : ConfId
  pub members : List ℕ
  pub change : ChangesWith log.entries stay.from conf members
  pub are : AreMemberLogs run members found

-- the traffic is what was gathered, and it was verified
pub record IsSeen (run : List Log) (lines : List Numbering) (g : Gathered) (traffic : Traffic) : Type 0 where
  pub sent : traffic.sent.items ≡ g.sent.items
  pub got : traffic.got.items ≡ g.got.items
  pub lists : AreTrue run lines g traffic.logs
  pub ends : AreEnds run g.stays.items (length g.stays.items) traffic.logs traffic.ended traffic.open
  pub members : HasMembers run g.stays.items traffic.members
  pub following : HasFollowings run g.stays.items (length g.stays.items) traffic.following.items
