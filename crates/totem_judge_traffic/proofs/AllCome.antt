-- 7.2 over the traffic of a configuration.
use Rattle.std.proofs.Common.{arith}
use Rattle.totem_judge_traffic.proofs.Common.{inl, ℕ, List, refl, All, RingId, Regular, MsgId, Log, Deliver, ChangesTo, Delivers, IsSafe, IsMember, log_of, IsTrafficOf, AllHaveCome, IsNotSafeThere, Shows}
use Rattle.totem_evs.specs.declared.spec.SpecNo.TheVariants as spec
use Rattle.totem_judge_traffic.specs.declared.traffic.Traffic.{Traffic}
use Rattle.totem_judge_traffic.proofs.Facts.{all_at, has_log, got_of}

come : (run : List Log) (c : RingId) (traffic : Traffic) → AllHaveCome traffic → IsTrafficOf run c traffic
    → (q : ℕ) → IsMember run (Regular c) q → (j : ℕ) × ChangesTo (log_of run q) j (Regular c)
come run c traffic (all, within) is q member =
    let log = is.members.all all q member in
    (is.logs.exact log.0 q log.1).0 (within.each log.0 ((is.members.logs.exact log.0 q log.1).1 member))

pub come_met : (traffic : Traffic) → AllHaveCome traffic → Shows spec.Installed traffic
come_met traffic clean = record {
  met = λ run c meets is. record { each = λ m p i q safe delivers member. come run c traffic clean is q member };
}

-- no process delivers a safe message in c
never : (run : List Log) (c : RingId) (traffic : Traffic) → All IsNotSafeThere traffic.got.items → IsTrafficOf run c traffic
    → (m : MsgId) (p i : ℕ) → IsSafe run m → Delivers (log_of run p) i m (Regular c) → ⊥
never run c traffic clean is m p i safe delivers =
    let has = is.all_got p i m (Regular c, delivers, inl refl) in
    let got = got_of run c traffic is m has in
    let log = has_log run p i (Deliver m (Regular c)) delivers in
    (all_at IsNotSafeThere traffic.got.items has.at has.got clean has.stands (got.safe.1 safe)).none log.0 ((got.regular.exact log.0 p log.1).1 (i, delivers))

pub none_met : (traffic : Traffic) → All IsNotSafeThere traffic.got.items → Shows spec.Installed traffic
none_met traffic clean = grind (arith, never)
