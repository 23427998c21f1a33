-- 7.1 over the traffic of a configuration.
use Rattle.totem_judge_traffic.proofs.Common.{◌⊎◌, inl, inr, ℕ, List, refl, All, RingId, ConfId, Regular, MsgId, Log, Deliver, Delivers, IsSafe, IsMember, log_of, Com, DeliversOrEnds, IsLogAt, AreMembers, IsTrafficOf, AreAllAmong, IsSafeBehind, ReachesAll, Shows}
use Rattle.totem_evs.specs.declared.spec.SpecNo.TheVariants as spec
use Rattle.totem_judge_traffic.specs.declared.traffic.Got.{Got}
use Rattle.totem_judge_traffic.specs.declared.traffic.MemberLogs.{MemberLogs}
use Rattle.totem_judge_traffic.specs.declared.traffic.Traffic.{Traffic}
use Rattle.totem_judge_traffic.specs.LogSets.{Has}
use Rattle.totem_judge_traffic.proofs.Facts.{all_at, has_log, IsGotOf, got_of}

module _ (run : List Log) (c : RingId) (traffic : Traffic) (is : IsTrafficOf run c traffic) where
  -- a process that the message reaches delivers it, or has ended
  of_log : (m : MsgId) (got : Got) → IsGotOf run c m got → (q index : ℕ) → IsLogAt run index q
      → (Has got.regular index ⊎ Has got.transitional index) ⊎ Has traffic.ended index → DeliversOrEnds run q c m
  of_log m got known q index log (inl (inl there)) =
      let at = (known.regular.exact index q log).0 there in inl (at.0, (Regular c, at.1, inl refl))
  of_log m got known q index log (inl (inr behind)) =
      let at = (known.transitional.exact index q log).0 behind in inl (at.0, (at.1, at.2, inr at.3))
  of_log m got known q index log (inr ended) = inr ((is.ended.exact index q log).0 ended)

  -- each member does so
  of_member : (m : MsgId) (got : Got) → IsGotOf run c m got → (r : ReachesAll traffic got) → (x : ConfId) (members : MemberLogs) → AreMembers run x members
      → AreAllAmong r.reached members → (q : ℕ) → IsMember run x q → DeliversOrEnds run q c m
  of_member m got known r x members are (all, within) q member =
      let log = are.all all q member in
      of_log m got known q log.0 log.1 (r.deliver log.0 (within.each log.0 ((are.logs.exact log.0 q log.1).1 member)))

  reached : (m : MsgId) (got : Got) → IsGotOf run c m got → ReachesAll traffic got → (p i : ℕ) (d : ConfId) (q : ℕ) → IsSafe run m → Delivers (log_of run p) i m d
      → Com (log_of run p) c d → IsMember run d q → DeliversOrEnds run q c m
  reached m got known r p i d q safe delivers (inl there) member =
      let log = has_log run p i (Deliver m d) delivers in
      elim (r.there (known.safe.1 safe)) [
        | inl none ↦ absurd (none.none log.0 ((known.regular.exact log.0 p log.1).1 (i, rw there at delivers)))
        | inr among ↦ of_member m got known r (Regular c) traffic.members is.members among q (rw there at member)
      ]
  reached m got known r p i d q safe delivers (inr follows) member =
      let log = has_log run p i (Deliver m d) delivers in
      let f = is.following p d follows in
      elim (all_at (IsSafeBehind got.transitional r.reached) traffic.following.items f.at f.following (r.behind (known.safe.1 safe)) f.stands) [
        | inl apart ↦ absurd (apart.none log.0 ((f.is.logs.exact log.0 p log.1).1 follows) ((known.transitional.exact log.0 p log.1).1 (i, d, delivers, follows)))
        | inr among ↦ of_member m got known r d f.following.members f.is.members among q member
      ]

pub safety_met : (traffic : Traffic) → All (ReachesAll traffic) traffic.got.items → Shows spec.Safety traffic
safety_met traffic clean = record {
  met = λ run c meets is. record {
    each = λ m p i d q safe delivers stays member.
        let has = is.all_got p i m (d, delivers, stays) in
        reached run c traffic is m has.got (got_of run c traffic is m has) (all_at (ReachesAll traffic) traffic.got.items has.at has.got clean has.stands) p i d q safe delivers stays member;
  };
}
