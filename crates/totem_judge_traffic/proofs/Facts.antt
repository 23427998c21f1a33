-- What the traffic of a configuration says about the logs.
use Rattle.totem_judge_traffic.proofs.Common.{◌≡◌, ◌⊎◌, inl, inr, ℕ, ◌<◌, List, slice_get, Some, refl, sym, ◌∙◌, ap, subst, arith, ◌↔◌, IsTrue, All, slice_get_within, get_or_from_slice_get, RingId, ConfId, Regular, MsgId, Entry, Log, Deliver, ChangesTo, Sends, Delivers, IsSafe, log_of, StandsIn, DeliversIn, HasDelivered, MeetsPasses, Rising, log_of_cases, in_order, less_or_not, IsLogAt, AreLogsOf, DeliversBehind, IsTrafficOf, HasGot, IsBy}
use Rattle.totem_evs.specs.Runs.{IsRun}
use Rattle.totem_evs.proofs.Originating.{delivered_in}
use Rattle.totem_judge_traffic.specs.declared.traffic.Sent.{Sent}
use Rattle.totem_judge_traffic.specs.declared.traffic.Got.{Got}
use Rattle.totem_judge_traffic.specs.declared.traffic.Traffic.{Traffic}
use Rattle.totem_judge_traffic.specs.LogSets.{Has}
use Rattle.totem_judge_traffic.proofs.Sets.{has_or_not}

-- what holds for all holds for each
pub all_at : {X : Type 0} (P : X → Type 0) (xs : List X) (k : ℕ) (x : X) → All P xs → slice_get xs k ≡ Some x → P x
all_at P xs k x all at = rw (get_or_from_slice_get xs k x x at) at (all k x (slice_get_within xs k x at))

-- a process that has an entry has a log
pub has_log : (run : List Log) (p i : ℕ) (x : Entry) → slice_get (log_of run p) i ≡ Some x → (index : ℕ) × IsLogAt run index p
has_log run p i x at = grind (arith, log_of_cases)

-- a process has one log
pub one_log : (run : List Log) (j k p : ℕ) → Rising run → IsLogAt run j p → IsLogAt run k p → j ≡ k
one_log run j k p rising a b = grind (arith, less_or_not, in_order)

-- what is known about the delivery of m
pub record IsGotOf (run : List Log) (c : RingId) (m : MsgId) (got : Got) : Type 0 where
  pub safe : IsTrue got.safe ↔ IsSafe run m
  pub regular : AreLogsOf run got.regular (λ p. (i : ℕ) × Delivers (log_of run p) i m (Regular c))
  pub transitional : AreLogsOf run got.transitional (DeliversBehind run c m)

one_sent : (sents : List Sent) (k : ℕ) (s t : Sent) → slice_get sents k ≡ Some s → slice_get sents k ≡ Some t → s ≡ t
one_sent sents k s t a b = cc

pub got_of : (run : List Log) (c : RingId) (traffic : Traffic) → IsTrafficOf run c traffic → (m : MsgId) (has : HasGot traffic.sent.items traffic.got.items m) → IsGotOf run c m has.got
got_of run c traffic is m has =
    let got = is.got has.at has.got has.stands in
    let same : got.sent.message ≡ m = ap (λ (s : Sent). s.message) (one_sent traffic.sent.items has.got.sent got.sent has.sent got.of has.of) ∙ has.message in
    subst (λ (n : MsgId). IsGotOf run c n has.got) same (record { safe = got.safe; regular = got.regular; transitional = got.transitional })

-- ---- which logs deliver

-- a run has few logs
pub small : (run : List Log) (index p : ℕ) → IsRun run → IsLogAt run index p → index < 32
small run index p is log = omega (arith, is.few, slice_get_within run index log.log log.stands)

pub by_or_not : (got : Got) (log : ℕ) → IsBy got log ⊎ (IsBy got log → ⊥)
by_or_not got log = grind (arith, has_or_not)

-- a process that delivers m is among those that the traffic has for m
pub is_by : (run : List Log) (c : RingId) (m : MsgId) (got : Got) (index p i : ℕ) → IsGotOf run c m got → IsLogAt run index p → DeliversIn (log_of run p) c m i → IsBy got index
is_by run c m got index p i known log (d, delivers, inl there) = inl ((known.regular.exact index p log).1 (i, rw there at delivers))
is_by run c m got index p i known log (d, delivers, inr follows) = inr ((known.transitional.exact index p log).1 (i, d, delivers, follows))

pub by_delivers : (run : List Log) (c : RingId) (m : MsgId) (got : Got) (index p : ℕ) → IsGotOf run c m got → IsLogAt run index p → IsBy got index → HasDelivered (log_of run p) c m
by_delivers run c m got index p known log (inl there) = let at = (known.regular.exact index p log).0 there in (at.0, (Regular c, at.1, inl refl))
by_delivers run c m got index p known log (inr behind) =
    let at = (known.transitional.exact index p log).0 behind in (at.0, (at.1, at.2, inr at.3))

of_standing : (log : List Entry) (i : ℕ) (c : RingId) (d : ConfId) → d ≡ Regular c → StandsIn log i d → (j : ℕ) × ChangesTo log j (Regular c)
of_standing log i c d there stands = (stands.from, rw there at stands.change)

-- a process that delivers in c, or in what follows it, has changed to c
pub comes : (run : List Log) (c : RingId) (m : MsgId) (p i : ℕ) → MeetsPasses run → DeliversIn (log_of run p) c m i → (j : ℕ) × ChangesTo (log_of run p) j (Regular c)
comes run c m p i meets delivers = grind (arith, of_standing, delivered_in)

pub in_logs : (run : List Log) (c : RingId) (traffic : Traffic) (m : MsgId) (index p i : ℕ) → MeetsPasses run → IsTrafficOf run c traffic → IsLogAt run index p
    → DeliversIn (log_of run p) c m i → Has traffic.logs index
in_logs run c traffic m index p i meets is log delivers = (is.logs.exact index p log).1 (comes run c m p i meets delivers)

-- the log of a process that delivers
pub log_of_delivery : (run : List Log) (c : RingId) (m : MsgId) (p i : ℕ) → DeliversIn (log_of run p) c m i → (index : ℕ) × IsLogAt run index p
log_of_delivery run c m p i (d, delivers, stays) = has_log run p i (Deliver m d) delivers

-- the list has the sender
pub sender_of : (run : List Log) (c : RingId) (traffic : Traffic) (m : MsgId) (p i : ℕ) (x : ConfId) → MeetsPasses run → IsTrafficOf run c traffic
    → (has : HasGot traffic.sent.items traffic.got.items m) → Sends (log_of run p) i m x → IsLogAt run has.got.sender p
sender_of run c traffic m p i x meets is has sends =
    let got = is.got has.at has.got has.stands in
    let sent = is.sent has.got.sent has.sent has.of in
    let here : Sends (log_of run sent.proc) sent.at m (Regular c) = subst (λ (k : MsgId). Sends (log_of run sent.proc) sent.at k (Regular c)) has.message sent.sends in
    let same : sent.proc ≡ p = (meets.once.one_send sent.proc sent.at p i m (Regular c) x here sends).0 in
    let index : has.got.sender ≡ has.sent.sender = got.sender ∙ ap (λ (s : Sent). s.sender) (one_sent traffic.sent.items has.got.sent got.sent has.sent got.of has.of) in
    subst (λ (k : ℕ). IsLogAt run k p) (sym index) (subst (λ (q : ℕ). IsLogAt run has.sent.sender q) same sent.sender)

-- of two messages that a log delivers, the first one is first in the list
pub stands_first : (run : List Log) (c : RingId) (traffic : Traffic) (m n : MsgId) (p i j : ℕ) → IsTrafficOf run c traffic
    → (a : HasGot traffic.sent.items traffic.got.items m) (b : HasGot traffic.sent.items traffic.got.items n)
    → DeliversIn (log_of run p) c m i → DeliversIn (log_of run p) c n j → (i < j) ↔ (a.at < b.at)
stands_first run c traffic m n p i j is a b first second =
    is.got_order.each a.at b.at a.got b.got a.sent b.sent p i j a.stands b.stands a.of b.of (rw (sym a.message) at first) (rw (sym b.message) at second)
