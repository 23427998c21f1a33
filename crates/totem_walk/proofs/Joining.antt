-- From the two walks to the run.
use Rattle.totem_walk.proofs.Common.{◌≡◌, ℕ, zero, suc, ◌+◌, ◌<◌, ◌⊎◌, ◌↔◌, inl, inr, List, slice_get, Option, Some, None, Bool, true, false, IsTrue, refl, ◌∙◌, ap, subst, arith, RingId, ConfId, Regular, MsgId, Place, Entry, Send, log_of, entry_at, at_place, Delivers, WasSentIn, SendsAt, Com, DeliversIn, IsHop, MeetsPasses, Handles, index_in, IsFollowedBy, IsDelivered, AreDeliveries, KeepsOrder, BreaksOrder}
use Rattle.std.specs.Bool.{OnTrue, OnFalse}
use Rattle.totem_names.specs.declared.message.Service.{Service}
use Rattle.totem_evs.specs.declared.log.Log.{Log}
use Rattle.totem_stitch.specs.declared.stitch.Stitch.{Stitch}
use Rattle.totem_stitch.specs.Stitched.{IsStitch, follower_of}
use Rattle.totem_stitch.proofs.Answering.{com_is}
use Rattle.totem_walk.specs.declared.deliveries.Deliveries.{Deliveries}
use Rattle.totem_walk.specs.Between.{IsCausalBetween, BreaksBetween, IsOfPairs}

abbrev place : ℕ → ℕ → Place
place p i = record { proc = p; at = suc i }

module _ (run : List Log) (c : RingId) (p q : ℕ) (deliveries : Deliveries) (meets : MeetsPasses run) (are : AreDeliveries deliveries (log_of run q) c) where
  -- where q delivers a message
  index_is : (m : MsgId) (k : ℕ) → DeliversIn (log_of run q) c m k → index_in deliveries m ≡ Some k
  index_is m k h = go (index_in deliveries m) refl (are.each m)
    where
      go : (i : Option ℕ) → index_in deliveries m ≡ i → IsDelivered (log_of run q) c m i → index_in deliveries m ≡ Some k
      go None is none = absurd (none (k, h))
      go (Some l) is (y, at, _) = is ∙ ap (λ (z : ℕ). Some z) (meets.once.one_delivery q l k m y h.0 at h.1)

  index_delivers : (m : MsgId) (k : ℕ) → index_in deliveries m ≡ Some k → DeliversIn (log_of run q) c m k
  index_delivers m k is = subst (λ (i : Option ℕ). IsDelivered (log_of run q) c m i) is (are.each m)

  -- the order is broken
  pub broken_between : BreaksOrder (log_of run p) (Regular c) deliveries → BreaksBetween run c p q
  broken_between b = go b.handles
    where
      late : (i : ℕ) → i < b.index → DeliversIn (log_of run q) c b.cause i → ⊥
      late i lt h = let le = b.late i (index_is b.cause i h) in omega arith

      found : (e : Place) → SendsAt run e b.cause (Regular c) → IsHop run c b.cause e (place p b.second) → BreaksBetween run c p q
      found e sends hop = record {
        earlier = e;
        later = place p b.second;
        sender = refl;
        index = b.index;
        uncaused = (b.cause, b.effect, sends, b.sends, hop, (index_delivers b.effect b.index b.delivered, late));
      }

      of_sent : (d : RingId) → Delivers (log_of run p) b.first b.cause (Regular c) → WasSentIn run b.cause (Regular d) → Com (log_of run p) d (Regular c) → BreaksBetween run c p q
      of_sent d delivers (s, i, (v, at)) (inl same) = found (place s i) (v, rw (← same) at at) (inr (b.second, omega arith, (b.first, b.order, delivers)))
      of_sent d delivers sent (inr follows) = absurd follows.transitional

      go : Handles (log_of run p) b.first b.cause (Regular c) → BreaksBetween run c p q
      go (inl sends) = found (place p b.first) sends (inl (refl, (let lt = b.order in omega arith)))
      go (inr delivers) = let sent = meets.sent p b.first b.cause (Regular c) delivers in of_sent sent.0 delivers sent.1 sent.2

  -- the order is kept
  pub causal_between : KeepsOrder (log_of run p) (Regular c) deliveries → IsCausalBetween run c p q
  causal_between kept = record { each = λ m n e f sends_e sends_f by hop j delivers. go m n e f.proc f.at sends_e.0 sends_f.0 sends_e.1 sends_f.1 by hop j delivers }
    where
      by_walk : (i j k : ℕ) (m n : MsgId) (v : Service) → i < j → Handles (log_of run p) i m (Regular c) → slice_get (log_of run p) j ≡ Some (Send n (Regular c) v) → DeliversIn (log_of run q) c n k
          → (l : ℕ) × (l < k) × DeliversIn (log_of run q) c m l
      by_walk i j k m n v lt handles at h = let r = kept.each i j k m n lt handles (v, at) (index_is n k h) in (r.0, r.1, index_delivers m r.0 r.2)

      in_one_log : (s a j k : ℕ) (m n : MsgId) (u v : Service) → at_place (log_of run s) a ≡ Some (Send m (Regular c) u) → s ≡ p → a < suc j → slice_get (log_of run p) j ≡ Some (Send n (Regular c) v)
          → DeliversIn (log_of run q) c n k → (l : ℕ) × (l < k) × DeliversIn (log_of run q) c m l
      in_one_log s zero j k m n u v at same lt at_j h = absurd cc
      in_one_log s (suc i) j k m n u v at same lt at_j h = by_walk i j k m n v (omega arith) (inl (u, rw same at at)) at_j h

      go : (m n : MsgId) (e : Place) (s a : ℕ) (u v : Service) → entry_at run e ≡ Some (Send m (Regular c) u) → at_place (log_of run s) a ≡ Some (Send n (Regular c) v) → s ≡ p
          → ((e.proc ≡ s) × (e.at < a)) ⊎ ((j : ℕ) × (a ≡ j + 1) × ((i : ℕ) × (i < j) × Delivers (log_of run s) i m (Regular c)))
          → (k : ℕ) → DeliversIn (log_of run q) c n k → (l : ℕ) × (l < k) × DeliversIn (log_of run q) c m l
      go m n e s zero u v at_e at_f by hop k h = absurd cc
      go m n e s (suc j) u v at_e at_f by (inl (same, lt)) k h = in_one_log e.proc e.at j k m n u v at_e (same ∙ by) lt (rw by at at_f) h
      go m n e s (suc j) u v at_e at_f by (inr (b, is, (i, lt, delivers))) k h = by_walk i j k m n v (omega arith) (inr (rw by at delivers)) (rw by at at_f) h

-- never both at once
not_both : (run : List Log) (c : RingId) (p q : ℕ) → BreaksBetween run c p q → IsCausalBetween run c p q → ⊥
not_both run c p q b causal = go b.uncaused
  where
    go : (m n : MsgId) × SendsAt run b.earlier m (Regular c) × SendsAt run b.later n (Regular c) × IsHop run c m b.earlier b.later
        × (DeliversIn (log_of run q) c n b.index × ((i : ℕ) → i < b.index → DeliversIn (log_of run q) c m i → ⊥)) → ⊥
    go (m, n, sends_e, sends_f, hop, (delivers, late)) = let r = causal.each m n b.earlier b.later sends_e sends_f b.sender hop b.index delivers in late r.0 r.1 r.2

pub decided : (run : List Log) (c : RingId) (p q : ℕ) (kept : Bool) → OnTrue kept (IsCausalBetween run c p q) → OnFalse kept (BreaksBetween run c p q) → IsTrue kept ↔ IsCausalBetween run c p q
decided run c p q true causal broken = (λ t. causal, λ h. refl)
decided run c p q false causal broken = (λ t. absurd cc, λ h. absurd (not_both run c p q broken h))

-- what the walks say about two logs holds of the run
pub kept_so : (run : List Log) (c : RingId) (p q : ℕ) (deliveries : Deliveries) (sending delivering : List Entry) (kept : Bool) → MeetsPasses run → sending ≡ log_of run p → delivering ≡ log_of run q → AreDeliveries deliveries delivering c
    → OnTrue kept (KeepsOrder sending (Regular c) deliveries) → OnTrue kept (IsCausalBetween run c p q)
kept_so run c p q deliveries sending delivering true meets from to are kept = causal_between run c p q deliveries meets (rw to at are) (rw from at kept)
kept_so run c p q deliveries sending delivering false meets from to are kept = tt

pub broken_so : (run : List Log) (c : RingId) (p q : ℕ) (deliveries : Deliveries) (sending delivering : List Entry) (kept : Bool) → MeetsPasses run → sending ≡ log_of run p → delivering ≡ log_of run q → AreDeliveries deliveries delivering c
    → OnFalse kept (BreaksOrder sending (Regular c) deliveries) → OnFalse kept (BreaksBetween run c p q)
broken_so run c p q deliveries sending delivering true meets from to are broken = tt
broken_so run c p q deliveries sending delivering false meets from to are broken = broken_between run c p q deliveries meets (rw to at are) (rw from at broken)

pub of_pairs : IsOfPairs
of_pairs run c = (
  λ h p q. record { each = λ m n e f sends_e sends_f by hop j delivers. h.each m n e f sends_e sends_f hop q j delivers },
  λ h. record { each = λ m n e f sends_e sends_f hop r j delivers. (h f.proc r).each m n e f sends_e sends_f refl hop j delivers },
)

-- the configuration that follows according to the tables
pub followed_so : (stitch : Stitch) (run : List Log) (c : RingId) (q : ℕ) (follower : Option ConfId) → IsStitch stitch run → follower ≡ follower_of stitch q c → IsFollowedBy (log_of run q) c follower
followed_so stitch run c q follower is same = record { exact = λ d. com_is (log_of run q) c follower (rw same (is.followers q c)) d }
