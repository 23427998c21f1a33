-- What the lists of one regular configuration say about what was sent and delivered there.
use Rattle.std.specs.Prelude.{◌≡◌, ◌⊎◌, ℕ, ◌<◌, ◌≤◌, Bool, true, false, List, length, slice_get, Some}
use Rattle.totem_names.specs.declared.ring.RingId.{RingId}
use Rattle.totem_names.specs.declared.conf.ConfId.{ConfId}
use Rattle.totem_names.specs.declared.conf.ConfId.TheVariants.{Regular}
use Rattle.totem_names.specs.declared.message.MsgId.{MsgId}
use Rattle.totem_names.specs.declared.message.Service.{Service}
use Rattle.totem_names.specs.declared.message.Service.TheVariants as services
use Rattle.totem_evs.specs.declared.entry.Entry.{Entry}
use Rattle.totem_evs.specs.declared.entry.Entry.TheVariants.{Conf, Send, Deliver, Fail}
use Rattle.totem_judge_traffic.specs.declared.log_set.LogSet.{LogSet}
use Rattle.totem_judge_traffic.specs.declared.traffic.Sent.{Sent}
use Rattle.totem_judge_traffic.specs.declared.traffic.Got.{Got}
use Rattle.totem_judge_traffic.specs.LogSets.{Has}
use Rattle.totem_judge_traffic.specs.Clean.{IsBy}
use Rattle.totem_judge.specs.declared.gathered.Origin.{Origin}
use Rattle.totem_judge.specs.declared.gathered.Gathered.{Gathered}
use Rattle.totem_judge.specs.declared.gathered.Stay.{Stay}

-- it holds for each index below n
pub record EachBelow (Holds : ℕ → Type 0) (n : ℕ) : Type 0 where
  pub each : (k : ℕ) → k < n → Holds k

-- it is the service of safe messages
abbrev pub is_safe : Service → Bool
is_safe services.Agreed = false
is_safe services.Safe = true

-- ---- what was sent

-- the entry sends m in c
pub record IsSendOf (e : Entry) (c : RingId) (m : MsgId) (service : Service) : Type 0 where
  pub is : e ≡ Send m (Regular c) service

-- a send with this number is before what is delivered from this index on
abbrev pub ComesBefore : List ℕ → ℕ → ℕ → Type 0
ComesBefore numbers before number = (before ≡ length numbers) ⊎ ((n : ℕ) × (slice_get numbers before ≡ Some n) × number < n)

-- the log delivers the k-th message that was sent
pub record IsGotBy (gots : List Got) (k log : ℕ) : Type 0 where
  pub at : ℕ
  pub got : Got
  pub stands : slice_get gots at ≡ Some got
  pub of : got.sent ≡ k
  pub by : IsBy got log

-- each log that delivers the k-th message is listed there as well
pub record IsLinked (gots : List Got) (k : ℕ) (sent : Sent) : Type 0 where
  pub each : (log : ℕ) → Has sent.by log → IsGotBy gots k log

-- the k-th message was sent by one of these logs, and stands as the lists say among what is delivered
pub record IsSentAt (g : Gathered) (logs : LogSet) (k : ℕ) : Type 0 where
  pub sent : Sent
  pub number : ℕ
  pub sent_is : slice_get g.sent.items k ≡ Some sent
  pub number_is : slice_get g.sent_numbers.items k ≡ Some number
  pub among : Has logs sent.sender
  pub before : ComesBefore g.got_numbers.items sent.before number
  pub linked : IsLinked g.got.items k sent

-- ---- what is delivered

-- the k-th message that is delivered was sent, and it is delivered by at least one log, and by these logs only
pub record IsGotAt (g : Gathered) (logs : LogSet) (k : ℕ) : Type 0 where
  pub got : Got
  pub sent : Sent
  pub origin : Origin
  pub got_is : slice_get g.got.items k ≡ Some got
  pub sent_is : slice_get g.sent.items got.sent ≡ Some sent
  pub origin_is : slice_get g.origins.items got.sent ≡ Some origin
  pub sender : got.sender ≡ sent.sender
  pub kind : got.safe ≡ is_safe origin.service
  pub behind : sent.before ≤ k
  pub within : (log : ℕ) → IsBy got log → Has sent.by log
  pub among : (log : ℕ) → IsBy got log → Has logs log
  pub some : (log : ℕ) × IsBy got log

-- ---- what is in a stay

-- the stay's log is listed as delivering the message in the configuration that it is in at this index, and only there
pub record IsThere (got : Got) (stay : Stay) (at : ℕ) : Type 0 where
  pub regular : at < stay.turn → Has got.regular stay.log × (Has got.transitional stay.log → ⊥)
  pub transitional : stay.turn ≤ at → Has got.transitional stay.log × (Has got.regular stay.log → ⊥)

-- the entry at this index of the stay's log, a delivery of m, is listed at k: with its number, and as in the configuration that the log is in
pub record IsDeliveryOf (numbers : List ℕ) (g : Gathered) (stay : Stay) (k at : ℕ) (m : MsgId) : Type 0 where
  pub got : Got
  pub sent : Sent
  pub number : ℕ
  pub got_is : slice_get g.got.items k ≡ Some got
  pub sent_is : slice_get g.sent.items got.sent ≡ Some sent
  pub message_is : sent.message ≡ m
  pub number_is : slice_get g.got_numbers.items k ≡ Some number
  pub own_number : slice_get numbers at ≡ Some number
  pub there : IsThere got stay at

-- the entry at this index of the log sends what is listed at k, with its number
pub record IsOriginAt (numbers : List ℕ) (g : Gathered) (log k at : ℕ) (e : Entry) : Type 0 where
  pub sent : Sent
  pub origin : Origin
  pub number : ℕ
  pub sent_is : slice_get g.sent.items k ≡ Some sent
  pub origin_is : slice_get g.origins.items k ≡ Some origin
  pub number_is : slice_get g.sent_numbers.items k ≡ Some number
  pub sender : sent.sender ≡ log
  pub own_number : slice_get numbers at ≡ Some number
  pub send : IsSendOf e g.ring sent.message origin.service

-- what the entry sends or delivers is listed, and a change is where the stay turns
abbrev pub IsListed : List ℕ → Gathered → Stay → ℕ → Entry → Type 0
IsListed numbers g stay at (Conf x members) = at ≡ stay.turn
IsListed numbers g stay at (Send m x service) = (k : ℕ) × IsOriginAt numbers g stay.log k at (Send m x service)
IsListed numbers g stay at (Deliver m x) = (k : ℕ) × IsDeliveryOf numbers g stay k at m
IsListed numbers g stay at (Fail x) = Unit {0}

-- an entry of the stay delivers what is listed at k
pub record IsDeliveredAt (entries : List Entry) (numbers : List ℕ) (g : Gathered) (stay : Stay) (k : ℕ) : Type 0 where
  pub at : ℕ
  pub message : MsgId
  pub conf : ConfId
  pub after : stay.from < at
  pub until : at < stay.end
  pub entry : slice_get entries at ≡ Some (Deliver message conf)
  pub is : IsDeliveryOf numbers g stay k at message

-- an entry of the stay sends what is listed at k
pub record IsSentIn (entries : List Entry) (numbers : List ℕ) (g : Gathered) (stay : Stay) (k : ℕ) : Type 0 where
  pub at : ℕ
  pub entry : Entry
  pub stands : slice_get entries at ≡ Some entry
  pub is : IsOriginAt numbers g stay.log k at entry

-- the log sends none of what is listed from one index on and before the other
pub record AreUnsent (sents : List Sent) (log from to : ℕ) : Type 0 where
  pub none : (k : ℕ) (sent : Sent) → from ≤ k → k < to → slice_get sents k ≡ Some sent → sent.sender ≡ log → ⊥

-- of what is listed before the index n, the entries of the stay send all that the log sends
pub record AreSentIn (entries : List Entry) (numbers : List ℕ) (g : Gathered) (stay : Stay) (n : ℕ) : Type 0 where
  pub each : (k : ℕ) (sent : Sent) → k < n → slice_get g.sent.items k ≡ Some sent → sent.sender ≡ stay.log → IsSentIn entries numbers g stay k

-- the log delivers none of what is listed from one index on and before the other
pub record AreSkipped (gots : List Got) (log from to : ℕ) : Type 0 where
  pub none : (k : ℕ) (got : Got) → from ≤ k → k < to → slice_get gots k ≡ Some got → IsBy got log → ⊥

-- the entries of the stay before the index `to` are listed; of what is listed before the index n, they deliver all that the log delivers
pub record AreAsListed (entries : List Entry) (numbers : List ℕ) (g : Gathered) (stay : Stay) (to n : ℕ) : Type 0 where
  pub listed : (at : ℕ) (x : Entry) → stay.from < at → at < to → slice_get entries at ≡ Some x → IsListed numbers g stay at x
  pub delivered : (k : ℕ) (got : Got) → k < n → slice_get g.got.items k ≡ Some got → IsBy got stay.log → IsDeliveredAt entries numbers g stay k
