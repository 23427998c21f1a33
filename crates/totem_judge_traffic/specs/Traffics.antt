-- What is kept about a regular configuration c, and what it means.
use Rattle.std.specs.Prelude.{◌≡◌, ◌⊎◌, ◌↔◌, ℕ, ◌<◌, ◌≤◌, IsTrue, List, slice_get, Some}
use Rattle.totem_names.specs.declared.ring.RingId.{RingId}
use Rattle.totem_names.specs.declared.conf.ConfId.{ConfId}
use Rattle.totem_names.specs.declared.conf.ConfId.TheVariants.{Regular}
use Rattle.totem_names.specs.declared.message.MsgId.{MsgId}
use Rattle.totem_evs.specs.declared.log.Log.{Log}
use Rattle.totem_evs.specs.Events.{ChangesTo, Sends, Delivers, IsSafe, IsMember, log_of}
use Rattle.totem_evs.specs.Runs.{IsRun}
use Rattle.totem_evs.specs.Following.{Follows, DeliversIn, HasDelivered, FailedIn, OpenIn}
use Rattle.totem_evs.specs.Agreement.{Goes}
use Rattle.totem_judge_traffic.specs.declared.log_set.LogSet.{LogSet}
use Rattle.totem_judge_traffic.specs.declared.observed.Observed.{Observed}
use Rattle.totem_judge_traffic.specs.declared.traffic.Sent.{Sent}
use Rattle.totem_judge_traffic.specs.declared.traffic.Got.{Got}
use Rattle.totem_judge_traffic.specs.declared.traffic.MemberLogs.{MemberLogs}
use Rattle.totem_judge_traffic.specs.declared.traffic.Following.{Following}
use Rattle.totem_judge_traffic.specs.declared.traffic.Traffic.{Traffic}
use Rattle.totem_judge_traffic.specs.LogSets.{Has}

-- p's log is at this index of the run
pub record IsLogAt (run : List Log) (index p : ℕ) : Type 0 where
  pub log : Log
  pub stands : slice_get run index ≡ Some log
  pub proc : log.proc ≡ p

-- the set has the logs of those processes for which this holds
pub record AreLogsOf (run : List Log) (set : LogSet) (Holds : ℕ → Type 0) : Type 0 where
  pub exact : (index p : ℕ) → IsLogAt run index p → Has set index ↔ Holds p

-- the logs are those of x's members
pub record AreMembers (run : List Log) (x : ConfId) (members : MemberLogs) : Type 0 where
  pub logs : AreLogsOf run members.logs (IsMember run x)
  pub all : IsTrue members.all → (q : ℕ) → IsMember run x q → (index : ℕ) × IsLogAt run index q

-- p delivers m in the configuration that follows c
abbrev pub DeliversBehind : List Log → RingId → MsgId → ℕ → Type 0
DeliversBehind run c m p = (i : ℕ) × (d : ConfId) × Delivers (log_of run p) i m d × Follows (log_of run p) c d

-- a message that was sent in c, and the logs that deliver it
pub record IsSentIn (run : List Log) (c : RingId) (sent : Sent) : Type 0 where
  pub proc : ℕ
  pub at : ℕ
  pub sender : IsLogAt run sent.sender proc
  pub sends : Sends (log_of run proc) at sent.message (Regular c)
  pub by : AreLogsOf run sent.by (λ p. HasDelivered (log_of run p) c sent.message)

-- the message is this one of the list of what was sent
abbrev pub IsOf : List Sent → Got → Sent → Type 0
IsOf sents got sent = slice_get sents got.sent ≡ Some sent

-- a message that is delivered in c or in what follows it, and the logs that deliver it in each of the two
pub record IsGotIn (run : List Log) (c : RingId) (sents : List Sent) (got : Got) : Type 0 where
  pub sent : Sent
  pub of : IsOf sents got sent
  pub sender : got.sender ≡ sent.sender
  pub safe : IsTrue got.safe ↔ IsSafe run sent.message
  pub regular : AreLogsOf run got.regular (λ p. (i : ℕ) × Delivers (log_of run p) i sent.message (Regular c))
  pub transitional : AreLogsOf run got.transitional (DeliversBehind run c sent.message)

-- the logs in which x follows c, and the logs that move on from x
pub record IsFollowingAs (run : List Log) (c : RingId) (x : ConfId) (following : Following) : Type 0 where
  pub members : AreMembers run x following.members
  pub logs : AreLogsOf run following.logs (λ p. Follows (log_of run p) c x)
  pub left : AreLogsOf run following.left (λ p. (d : ConfId) × Goes (log_of run p) x d)

-- the list has p's send of m
pub record HasSent (run : List Log) (sents : List Sent) (p : ℕ) (m : MsgId) : Type 0 where
  pub at : ℕ
  pub sent : Sent
  pub stands : slice_get sents at ≡ Some sent
  pub message : sent.message ≡ m
  pub sender : IsLogAt run sent.sender p

-- the list has the delivery of m
pub record HasGot (sents : List Sent) (gots : List Got) (m : MsgId) : Type 0 where
  pub at : ℕ
  pub got : Got
  pub stands : slice_get gots at ≡ Some got
  pub sent : Sent
  pub of : IsOf sents got sent
  pub message : sent.message ≡ m

-- the list has x, which follows c
pub record HasFollowing (run : List Log) (c : RingId) (list : List Following) (x : ConfId) : Type 0 where
  pub at : ℕ
  pub following : Following
  pub stands : slice_get list at ≡ Some following
  pub is : IsFollowingAs run c x following

-- ---- the order

-- what one log sends is in the order of the log
pub record SentInOrder (run : List Log) (c : RingId) (sents : List Sent) : Type 0 where
  pub each : (j k : ℕ) (s t : Sent) (p h i : ℕ) → slice_get sents j ≡ Some s → slice_get sents k ≡ Some t
      → Sends (log_of run p) h s.message (Regular c) → Sends (log_of run p) i t.message (Regular c) → h < i → j < k

-- what one log delivers is in the order of the log
pub record GotInOrder (run : List Log) (c : RingId) (sents : List Sent) (gots : List Got) : Type 0 where
  pub each : (j k : ℕ) (a b : Got) (s t : Sent) (p h i : ℕ) → slice_get gots j ≡ Some a → slice_get gots k ≡ Some b
      → IsOf sents a s → IsOf sents b t → DeliversIn (log_of run p) c s.message h → DeliversIn (log_of run p) c t.message i
      → (h < i) ↔ (j < k)

-- what a log delivers in c before it sends a message counts as before the message
pub record HeardBefore (run : List Log) (c : RingId) (sents : List Sent) (gots : List Got) : Type 0 where
  pub each : (j k : ℕ) (a : Got) (s t : Sent) (p h i : ℕ) → slice_get gots j ≡ Some a → IsOf sents a s → slice_get sents k ≡ Some t
      → Delivers (log_of run p) h s.message (Regular c) → Sends (log_of run p) i t.message (Regular c) → h < i → j < t.before

-- a message is delivered after those that count as before it
pub record GotBehind (sents : List Sent) (gots : List Got) : Type 0 where
  pub each : (j : ℕ) (a : Got) (s : Sent) → slice_get gots j ≡ Some a → IsOf sents a s → s.before ≤ j

-- ---- the whole

-- this is the traffic of c in the run
pub record IsTrafficOf (run : List Log) (c : RingId) (traffic : Traffic) : Type 0 where
  pub of_run : IsRun run
  pub sent : (k : ℕ) (s : Sent) → slice_get traffic.sent.items k ≡ Some s → IsSentIn run c s
  pub got : (k : ℕ) (g : Got) → slice_get traffic.got.items k ≡ Some g → IsGotIn run c traffic.sent.items g
  pub all_sent : (p i : ℕ) (m : MsgId) → Sends (log_of run p) i m (Regular c) → HasSent run traffic.sent.items p m
  pub all_got : (p i : ℕ) (m : MsgId) → DeliversIn (log_of run p) c m i → HasGot traffic.sent.items traffic.got.items m
  pub sent_order : SentInOrder run c traffic.sent.items
  pub got_order : GotInOrder run c traffic.sent.items traffic.got.items
  pub heard : HeardBefore run c traffic.sent.items traffic.got.items
  pub behind : GotBehind traffic.sent.items traffic.got.items
  pub logs : AreLogsOf run traffic.logs (λ p. (i : ℕ) × ChangesTo (log_of run p) i (Regular c))
  pub members : AreMembers run (Regular c) traffic.members
  pub ended : AreLogsOf run traffic.ended (λ p. FailedIn (log_of run p) c ⊎ OpenIn run p c)
  pub still_open : AreLogsOf run traffic.open (λ p. OpenIn run p c)
  pub following : (p : ℕ) (x : ConfId) → Follows (log_of run p) c x → HasFollowing run c traffic.following.items x

-- each of them is the traffic of the configuration of its ring
pub record AreTraffic (run : List Log) (list : List Observed) : Type 0 where
  pub each : (k : ℕ) (one : Observed) → slice_get list k ≡ Some one → IsTrafficOf run one.ring one.traffic
