-- 6.3 over the traffic of a configuration.
use Rattle.totem_judge_traffic.proofs.Common.{◌⊎◌, inl, inr, ℕ, ◌<◌, List, length, slice_get_within, RingId, ConfId, MsgId, Log, Deliver, Sends, Delivers, IsMember, log_of, Com, DeliversIn, HasDelivered, MeetsPasses, IsLogAt, IsTrafficOf, HasGot, IsBy, NoGapsTo, HasNoGap, Shows}
use Rattle.totem_evs.specs.declared.spec.SpecNo.TheVariants as spec
use Rattle.totem_judge_traffic.specs.declared.traffic.Traffic.{Traffic}
use Rattle.totem_judge_traffic.proofs.Facts.{has_log, got_of, small, by_or_not, is_by, by_delivers, in_logs, log_of_delivery, sender_of, stands_first}

module _ (run : List Log) (c : RingId) (traffic : Traffic) (meets : MeetsPasses run) (is : IsTrafficOf run c traffic)
    (clean : NoGapsTo traffic.logs traffic.following.items traffic.got.items (length traffic.got.items)) where
  no_gap : (m n : MsgId) (p i j q k : ℕ) (d : ConfId) → DeliversIn (log_of run p) c m i → DeliversIn (log_of run p) c n j → i < j
      → Delivers (log_of run q) k n d → Com (log_of run q) c d → (s l : ℕ) (x : ConfId) → Sends (log_of run s) l m x → IsMember run d s → HasDelivered (log_of run q) c m
  no_gap m n p i j q k d first second lt delivers stays s l x sends member = decide (by_or_not a.got other.0)
    where
      a : HasGot traffic.sent.items traffic.got.items m
      a = is.all_got p i m first

      b : HasGot traffic.sent.items traffic.got.items n
      b = is.all_got p j n second

      one : (index : ℕ) × IsLogAt run index p
      one = log_of_delivery run c m p i first

      other : (index : ℕ) × IsLogAt run index q
      other = has_log run q k (Deliver n d) delivers

      -- a log that lacks the earlier message does not deliver the later one
      apart : HasNoGap traffic.logs traffic.following.items a.got b.got
      apart = clean.each a.at b.at a.got b.got ((stands_first run c traffic m n p i j is a b first second).0 lt)
          (slice_get_within traffic.got.items b.at b.got b.stands) a.stands b.stands

      never : (IsBy a.got other.0 → ⊥) → Com (log_of run q) c d → ⊥
      never lacks (inl there) = apart.there one.0 other.0 (small run one.0 p is.of_run one.1)
          (is_by run c m a.got one.0 p i (got_of run c traffic is m a) one.1 first) (is_by run c n b.got one.0 p j (got_of run c traffic is n b) one.1 second)
          (in_logs run c traffic n other.0 q k meets is other.1 (d, delivers, inl there), lacks)
          (((got_of run c traffic is n b).regular.exact other.0 q other.1).1 (k, rw there at delivers))
      never lacks (inr follows) =
          let f = is.following q d follows in
          apart.behind one.0 other.0 (small run one.0 p is.of_run one.1)
          (is_by run c m a.got one.0 p i (got_of run c traffic is m a) one.1 first) (is_by run c n b.got one.0 p j (got_of run c traffic is n b) one.1 second)
          (in_logs run c traffic n other.0 q k meets is other.1 (d, delivers, inr follows), lacks)
          (record {
            at = f.at;
            following = f.following;
            stands = f.stands;
            member = (f.is.members.logs.exact a.got.sender s (sender_of run c traffic m s l x meets is a sends)).1 member;
            log = (f.is.logs.exact other.0 q other.1).1 follows;
          })
          (((got_of run c traffic is n b).transitional.exact other.0 q other.1).1 (k, d, delivers, follows))

      decide : IsBy a.got other.0 ⊎ (IsBy a.got other.0 → ⊥) → HasDelivered (log_of run q) c m
      decide (inl by) = by_delivers run c m a.got other.0 q (got_of run c traffic is m a) other.1 by
      decide (inr lacks) = absurd (never lacks stays)

pub gap_met : (traffic : Traffic) → NoGapsTo traffic.logs traffic.following.items traffic.got.items (length traffic.got.items) → Shows spec.Gap traffic
gap_met traffic clean = record {
  met = λ run c meets is. record {
    each = λ m n p i j q k d first second lt delivers stays s l x sends member.
        no_gap run c traffic meets is clean m n p i j q k d first second lt delivers stays s l x sends member;
  };
}
