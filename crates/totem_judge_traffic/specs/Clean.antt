-- What the rules require of the traffic of a configuration, and what that shows for the run.
use Rattle.std.specs.Prelude.{◌≡◌, ◌⊎◌, ℕ, ◌<◌, true, IsTrue, List, slice_get, Some, All}
use Rattle.totem_names.specs.declared.ring.RingId.{RingId}
use Rattle.totem_evs.specs.declared.log.Log.{Log}
use Rattle.totem_evs.specs.declared.spec.SpecNo.{SpecNo}
use Rattle.totem_evs.specs.declared.spec.SpecNo.TheVariants as spec
use Rattle.totem_evs.specs.RingFaults.{MeetsIn}
use Rattle.totem_evs.specs.Answers.{MeetsPasses}
use Rattle.totem_judge_traffic.specs.declared.agreed.Shown.{Shown}
use Rattle.totem_judge_traffic.specs.declared.log_set.LogSet.{LogSet}
use Rattle.totem_judge_traffic.specs.declared.rows.Rows.{Rows}
use Rattle.totem_judge_traffic.specs.declared.traffic.Sent.{Sent}
use Rattle.totem_judge_traffic.specs.declared.traffic.Got.{Got}
use Rattle.totem_judge_traffic.specs.declared.traffic.MemberLogs.{MemberLogs}
use Rattle.totem_judge_traffic.specs.declared.traffic.Following.{Following}
use Rattle.totem_judge_traffic.specs.declared.traffic.Traffic.{Traffic}
use Rattle.totem_judge_traffic.specs.LogSets.{Has, IsEmpty, IsWithin, AreApart}
use Rattle.totem_judge_traffic.specs.Traffics.{IsTrafficOf}
use Rattle.totem_judge_traffic.specs.Lacking.{RowHas}

-- each run that has passed A and B, and has this traffic in c, meets the specification in c
pub record Shows (k : SpecNo) (traffic : Traffic) : Type 0 where
  pub met : (run : List Log) (c : RingId) → MeetsPasses run → IsTrafficOf run c traffic → MeetsIn run c k

-- the run meets 3, 4, 5 (for pairs in one log), 6.3, 7.1 and 7.2 in c
pub record AgreesIn (run : List Log) (c : RingId) : Type 0 where
  pub own : MeetsIn run c spec.OwnDelivery
  pub atomicity : MeetsIn run c spec.Atomicity
  pub causality : MeetsIn run c spec.Causality
  pub gap : MeetsIn run c spec.Gap
  pub safety : MeetsIn run c spec.Safety
  pub installed : MeetsIn run c spec.Installed

-- each run that has passed A and B, and has this traffic in c, meets them all in c
pub record ShowsAgreement (traffic : Traffic) : Type 0 where
  pub met : (run : List Log) (c : RingId) → MeetsPasses run → IsTrafficOf run c traffic → AgreesIn run c

-- what the traffic is said to show, it shows
pub record AreShown (traffic : Traffic) (shown : Shown) : Type 0 where
  pub own : IsTrue shown.own → Shows spec.OwnDelivery traffic
  pub atomicity : IsTrue shown.atomicity → Shows spec.Atomicity traffic
  pub causality : IsTrue shown.causality → Shows spec.Causality traffic
  pub gap : IsTrue shown.gap → Shows spec.Gap traffic
  pub safety : IsTrue shown.safety → Shows spec.Safety traffic
  pub installed : IsTrue shown.installed → Shows spec.Installed traffic

-- all six are shown
pub record IsAllShown (shown : Shown) : Type 0 where
  pub own : IsTrue shown.own
  pub atomicity : IsTrue shown.atomicity
  pub causality : IsTrue shown.causality
  pub gap : IsTrue shown.gap
  pub safety : IsTrue shown.safety
  pub installed : IsTrue shown.installed

-- none of the six is shown
pub record IsNoneShown (shown : Shown) : Type 0 where
  pub own : IsTrue shown.own → ⊥
  pub atomicity : IsTrue shown.atomicity → ⊥
  pub causality : IsTrue shown.causality → ⊥
  pub gap : IsTrue shown.gap → ⊥
  pub safety : IsTrue shown.safety → ⊥
  pub installed : IsTrue shown.installed → ⊥

-- 3: the sender delivers the message, or has ended
abbrev pub IsOwned : LogSet → Sent → Type 0
IsOwned ended sent = Has sent.by sent.sender ⊎ Has ended sent.sender

-- 7.2: each member has a log that changes to the configuration
abbrev pub AllHaveCome : Traffic → Type 0
AllHaveCome traffic = IsTrue traffic.members.all × IsWithin traffic.members.logs traffic.logs

-- if the message is safe, no process delivers it in the configuration itself
abbrev pub IsNotSafeThere : Got → Type 0
IsNotSafeThere got = (got.safe ≡ true) → IsEmpty got.regular

-- each member has a log, and the log is in the set
abbrev pub AreAllAmong : LogSet → MemberLogs → Type 0
AreAllAmong logs members = IsTrue members.all × IsWithin members.logs logs

-- no log delivers the message in this configuration, which follows c, or it reaches all its members
abbrev pub IsSafeBehind : LogSet → LogSet → Following → Type 0
IsSafeBehind behind reached following = AreApart following.logs behind ⊎ AreAllAmong reached following.members

-- 7.1: if the message is safe, it reaches the members: their logs deliver it or have ended
pub record ReachesAll (traffic : Traffic) (got : Got) : Type 0 where
  pub reached : LogSet
  pub deliver : (log : ℕ) → Has reached log → (Has got.regular log ⊎ Has got.transitional log) ⊎ Has traffic.ended log
  pub there : got.safe ≡ true → IsEmpty got.regular ⊎ AreAllAmong reached traffic.members
  pub behind : got.safe ≡ true → All (IsSafeBehind got.transitional reached) traffic.following.items

-- 4: all of the group are in the set, or none
abbrev pub IsWhole : LogSet → LogSet → Type 0
IsWhole group set = AreApart group set ⊎ IsWithin group set

-- processes that move on together deliver the message all or none
abbrev pub IsTogether : Got → Following → Type 0
IsTogether got following = IsWhole following.logs got.regular × IsWhole following.left got.transitional

-- 4
abbrev pub IsAtomic : List Following → Got → Type 0
IsAtomic list got = All (IsTogether got) list

-- ---- what logs lack

-- the log delivers the message
abbrev pub IsBy : Got → ℕ → Type 0
IsBy got log = Has got.regular log ⊎ Has got.transitional log

-- the log is in the configuration and does not deliver the message
abbrev pub IsLacking : LogSet → Got → ℕ → Type 0
IsLacking logs got other = Has logs other × (IsBy got other → ⊥)

-- for each log that delivers one of the first messages, its row has the logs that lack the message
pub record LacksTo (logs : LogSet) (gots : List Got) (end : ℕ) (rows : Rows) : Type 0 where
  pub each : (k : ℕ) (got : Got) → k < end → slice_get gots k ≡ Some got → (log other : ℕ) → log < 32 → IsBy got log → IsLacking logs got other → RowHas rows log other

-- a configuration that follows c in this log has the sender as a member
pub record IsBehindWith (list : List Following) (sender other : ℕ) : Type 0 where
  pub at : ℕ
  pub following : Following
  pub stands : slice_get list at ≡ Some following
  pub member : Has following.members.logs sender
  pub log : Has following.logs other

-- the set has each log in which one of the first configurations of the list follows and has the sender as a member
pub record HasAllBehind (list : List Following) (sender end : ℕ) (logs : LogSet) : Type 0 where
  pub each : (k : ℕ) (following : Following) (other : ℕ) → k < end → slice_get list k ≡ Some following → Has following.members.logs sender → Has following.logs other → Has logs other

-- the same, but only for logs in which a configuration follows that has the sender of the message as a member
pub record LacksBehindTo (logs : LogSet) (list : List Following) (gots : List Got) (end : ℕ) (rows : Rows) : Type 0 where
  pub each : (k : ℕ) (got : Got) → k < end → slice_get gots k ≡ Some got → (log other : ℕ) → log < 32 → IsBy got log → IsLacking logs got other
      → IsBehindWith list got.sender other → RowHas rows log other

-- 6.3: if a log delivers both messages, a log that lacks the earlier one does not deliver the later one
pub record HasNoGap (logs : LogSet) (list : List Following) (earlier later : Got) : Type 0 where
  pub there : (log other : ℕ) → log < 32 → IsBy earlier log → IsBy later log → IsLacking logs earlier other → Has later.regular other → ⊥
  pub behind : (log other : ℕ) → log < 32 → IsBy earlier log → IsBy later log → IsLacking logs earlier other → IsBehindWith list earlier.sender other
      → Has later.transitional other → ⊥

-- this holds for each two of the first messages
pub record NoGapsTo (logs : LogSet) (list : List Following) (gots : List Got) (end : ℕ) : Type 0 where
  pub each : (j k : ℕ) (a b : Got) → j < k → k < end → slice_get gots j ≡ Some a → slice_get gots k ≡ Some b → HasNoGap logs list a b

-- ---- 5

-- of each two messages of one sender, a log that delivers the later one delivers the earlier one
pub record AreFewerTo (sents : List Sent) (end : ℕ) : Type 0 where
  pub each : (j k : ℕ) (s t : Sent) → j < k → k < end → slice_get sents j ≡ Some s → slice_get sents k ≡ Some t → s.sender ≡ t.sender → IsWithin t.by s.by

-- the messages of each sender are delivered in the order in which they were sent
pub record AreInOrderTo (gots : List Got) (end : ℕ) : Type 0 where
  pub each : (j k : ℕ) (a b : Got) → j < k → k < end → slice_get gots j ≡ Some a → slice_get gots k ≡ Some b → a.sender ≡ b.sender → a.sent < b.sent

-- a log that lacks a message that the sender delivers before it sends this one does not deliver this one
pub record IsCausal (logs : LogSet) (gots : List Got) (sent : Sent) : Type 0 where
  pub each : (k : ℕ) (got : Got) (other : ℕ) → k < sent.before → slice_get gots k ≡ Some got → IsBy got sent.sender → IsLacking logs got other → Has sent.by other → ⊥

pub record AreCausalTo (logs : LogSet) (gots : List Got) (sents : List Sent) (end : ℕ) : Type 0 where
  pub each : (k : ℕ) (sent : Sent) → k < end → slice_get sents k ≡ Some sent → IsCausal logs gots sent
