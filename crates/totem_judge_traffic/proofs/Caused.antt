-- 5 over the traffic of a configuration.
use Rattle.totem_judge_traffic.proofs.Common.{◌≡◌, ◌⊎◌, inl, inr, ℕ, ◌+◌, ◌<◌, List, length, slice_get, Some, refl, sym, ap, subst, arith, slice_get_within, RingId, ConfId, Regular, MsgId, Place, Log, Sends, Delivers, log_of, SendsAt, DeliversIn, HasDelivered, IsHop, MeetsPasses, less_or_not, IsLogAt, IsTrafficOf, HasSent, HasGot, IsBy, AreFewerTo, AreInOrderTo, AreCausalTo, Shows}
use Rattle.totem_evs.specs.declared.spec.SpecNo.TheVariants as spec
use Rattle.totem_judge_traffic.specs.declared.traffic.Got.{Got}
use Rattle.totem_judge_traffic.specs.declared.traffic.Traffic.{Traffic}
use Rattle.totem_judge_traffic.specs.LogSets.{Has}
use Rattle.totem_judge_traffic.proofs.Facts.{got_of, one_log, by_or_not, is_by, by_delivers, in_logs, log_of_delivery, sender_of, stands_first}

-- the index of a send
pub record SendIndex (run : List Log) (e : Place) (m : MsgId) (x : ConfId) : Type 0 where
  pub index : ℕ
  pub at : e.at ≡ index + 1
  pub sends : Sends (log_of run e.proc) index m x

index_of_send : (run : List Log) (e : Place) (m : MsgId) (x : ConfId) → SendsAt run e m x → SendIndex run e m x
index_of_send run e m x h = grind arith

-- what the rules of 5 require
pub record IsCausallyClean (traffic : Traffic) : Type 0 where
  pub fewer : AreFewerTo traffic.sent.items (length traffic.sent.items)
  pub in_order : AreInOrderTo traffic.got.items (length traffic.got.items)
  pub causal : AreCausalTo traffic.logs traffic.got.items traffic.sent.items (length traffic.sent.items)

module _ (run : List Log) (c : RingId) (traffic : Traffic) (meets : MeetsPasses run) (is : IsTrafficOf run c traffic) (clean : IsCausallyClean traffic) where
  -- n's entry in the list of what was sent is p's send
  sent_by : (n : MsgId) (p i : ℕ) → (b : HasGot traffic.sent.items traffic.got.items n) → Sends (log_of run p) i n (Regular c) → IsLogAt run b.sent.sender p
  sent_by n p i b sends =
      let sent = is.sent b.got.sent b.sent b.of in
      let here : Sends (log_of run sent.proc) sent.at n (Regular c) = subst (λ (k : MsgId). Sends (log_of run sent.proc) sent.at k (Regular c)) b.message sent.sends in
      subst (λ (q : ℕ). IsLogAt run b.sent.sender q) (meets.once.one_send sent.proc sent.at p i n (Regular c) (Regular c) here sends).0 sent.sender

  -- if r delivers both, and the earlier one is first in the list, it is delivered first
  delivers_first : (m n : MsgId) (r j : ℕ) → (b : HasGot traffic.sent.items traffic.got.items n) → DeliversIn (log_of run r) c n j → HasDelivered (log_of run r) c m
      → ((a : HasGot traffic.sent.items traffic.got.items m) → a.at < b.at) → (i : ℕ) × (i < j) × DeliversIn (log_of run r) c m i
  delivers_first m n r j b second (i, first) stands =
      let a = is.all_got r i m first in
      (i, (stands_first run c traffic m n r i j is a b first second).1 (stands a), first)

  -- ---- messages of one sender

  earlier_stands_first : (m n : MsgId) (p h i : ℕ) → Sends (log_of run p) h m (Regular c) → Sends (log_of run p) i n (Regular c) → h < i
      → (b : HasGot traffic.sent.items traffic.got.items n) (a : HasGot traffic.sent.items traffic.got.items m) → a.at < b.at
  earlier_stands_first m n p h i one other lt b a =
      let before : a.got.sent < b.got.sent = is.sent_order.each a.got.sent b.got.sent a.sent b.sent p h i a.of b.of (rw (sym a.message) at one) (rw (sym b.message) at other) lt in
      let same : a.got.sender ≡ b.got.sender = one_log run a.got.sender b.got.sender p is.of_run.rising
      (sender_of run c traffic m p h (Regular c) meets is a one) (sender_of run c traffic n p i (Regular c) meets is b other) in
      elim (less_or_not a.at b.at) [
        | inl under ↦ under
        | inr (inl over) ↦ absurd (
            let back = clean.in_order.each b.at a.at b.got a.got over (slice_get_within traffic.got.items a.at a.got a.stands) b.stands a.stands (sym same) in omega arith
            )
        | inr (inr level) ↦ absurd (
            let there : slice_get traffic.got.items b.at ≡ Some a.got = rw level at a.stands in
            let equal : a.got ≡ b.got = one_got traffic.got.items b.at a.got b.got there b.stands in
            let sents : a.got.sent ≡ b.got.sent = ap (λ (g : Got). g.sent) equal in
            omega arith
            )
      ]
    where
      one_got : (gots : List Got) (k : ℕ) (g h : Got) → slice_get gots k ≡ Some g → slice_get gots k ≡ Some h → g ≡ h
      one_got gots k g h x y = cc

  by_sender : (m n : MsgId) (p h i r j : ℕ) → Sends (log_of run p) h m (Regular c) → Sends (log_of run p) i n (Regular c) → h < i → DeliversIn (log_of run r) c n j
      → (k : ℕ) × (k < j) × DeliversIn (log_of run r) c m k
  by_sender m n p h i r j one other lt delivers =
      let b = is.all_got r j n delivers in
      let s = is.all_sent p h m one in
      let log = log_of_delivery run c n r j delivers in
      let first : HasSent run traffic.sent.items p m = s in
      let before : s.at < b.got.sent = is.sent_order.each s.at b.got.sent s.sent b.sent p h i s.stands b.of (rw (sym s.message) at one) (rw (sym b.message) at other) lt in
      let same : s.sent.sender ≡ b.sent.sender = one_log run s.sent.sender b.sent.sender p is.of_run.rising s.sender (sent_by n p i b other) in
      let by : Has b.sent.by log.0 = ((is.sent b.got.sent b.sent b.of).by.exact log.0 r log.1).1 (j, rw (sym b.message) at delivers) in
      let too : Has s.sent.by log.0 = (clean.fewer.each s.at b.got.sent s.sent b.sent before (slice_get_within traffic.sent.items b.got.sent b.sent b.of) s.stands b.of same).each log.0 by in
      let has : HasDelivered (log_of run r) c m = rw s.message at (((is.sent s.at s.sent s.stands).by.exact log.0 r log.1).0 too) in
      delivers_first m n r j b delivers has (earlier_stands_first m n p h i one other lt b)

  -- ---- messages that the sender delivered

  -- m is before n's send
  stands_before : (m n : MsgId) (p h i : ℕ) → Delivers (log_of run p) h m (Regular c) → Sends (log_of run p) i n (Regular c) → h < i
      → (b : HasGot traffic.sent.items traffic.got.items n) (a : HasGot traffic.sent.items traffic.got.items m) → a.at < b.sent.before
  stands_before m n p h i one other lt b a = is.heard.each a.at b.got.sent a.got a.sent b.sent p h i a.stands a.of b.of (rw (sym a.message) at one) (rw (sym b.message) at other) lt

  by_delivery : (m n : MsgId) (p h i r j : ℕ) → Delivers (log_of run p) h m (Regular c) → Sends (log_of run p) i n (Regular c) → h < i → DeliversIn (log_of run r) c n j
      → (k : ℕ) × (k < j) × DeliversIn (log_of run r) c m k
  by_delivery m n p h i r j one other lt delivers =
      delivers_first m n r j b delivers (decide (by_or_not a.got log.0)) (λ d. let before = stands_before m n p h i one other lt b d in let behind = is.behind.each b.at b.got b.sent b.stands b.of in omega arith)
    where
      b : HasGot traffic.sent.items traffic.got.items n
      b = is.all_got r j n delivers

      here : DeliversIn (log_of run p) c m h
      here = (Regular c, one, inl refl)

      a : HasGot traffic.sent.items traffic.got.items m
      a = is.all_got p h m here

      log : (index : ℕ) × IsLogAt run index r
      log = log_of_delivery run c n r j delivers

      decide : IsBy a.got log.0 ⊎ (IsBy a.got log.0 → ⊥) → HasDelivered (log_of run r) c m
      decide (inl by) = by_delivers run c m a.got log.0 r (got_of run c traffic is m a) log.1 by
      decide (inr lacks) = absurd ((clean.causal.each b.got.sent b.sent (slice_get_within traffic.sent.items b.got.sent b.sent b.of) b.of).each a.at a.got log.0
          (stands_before m n p h i one other lt b a) a.stands (is_by run c m a.got b.sent.sender p h (got_of run c traffic is m a) (sent_by n p i b other) here)
          (in_logs run c traffic n log.0 r j meets is log.1 delivers, lacks)
          (((is.sent b.got.sent b.sent b.of).by.exact log.0 r log.1).1 (j, rw (sym b.message) at delivers)))

  -- ---- either

  caused : (m n : MsgId) (e f : Place) → SendIndex run e m (Regular c) → SendIndex run f n (Regular c) → IsHop run c m e f → (r j : ℕ) → DeliversIn (log_of run r) c n j
      → (i : ℕ) × (i < j) × DeliversIn (log_of run r) c m i
  caused m n e f one other (inl (same, lt)) r j delivers =
      by_sender m n f.proc one.index other.index r j (rw same at one.sends) other.sends (omega (arith, lt, one.at, other.at)) delivers
  caused m n e f one other (inr (k, at, (h, lt, del))) r j delivers =
      by_delivery m n f.proc h other.index r j del other.sends (omega (arith, lt, at, other.at)) delivers

pub causality_met : (traffic : Traffic) → AreFewerTo traffic.sent.items (length traffic.sent.items) → AreInOrderTo traffic.got.items (length traffic.got.items)
    → AreCausalTo traffic.logs traffic.got.items traffic.sent.items (length traffic.sent.items) → Shows spec.Causality traffic
causality_met traffic fewer in_order causal = record {
  met = λ run c meets is. record {
    each = λ m n e f one other hop r j delivers.
        caused run c traffic meets is (record { fewer = fewer; in_order = in_order; causal = causal }) m n e f (index_of_send run e m (Regular c) one) (index_of_send run f n (Regular c) other) hop r j delivers;
  };
}
