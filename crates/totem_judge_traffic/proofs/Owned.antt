-- 3 over the traffic of a configuration.
use Rattle.totem_judge_traffic.proofs.Common.{inl, inr, ℕ, List, All, RingId, MsgId, Log, DeliversOrEnds, IsTrafficOf, HasSent, IsOwned, Shows}
use Rattle.totem_evs.specs.declared.spec.SpecNo.TheVariants as spec
use Rattle.totem_judge_traffic.specs.declared.traffic.Traffic.{Traffic}
use Rattle.totem_judge_traffic.proofs.Facts.{all_at}

owned : (run : List Log) (c : RingId) (traffic : Traffic) → All (IsOwned traffic.ended) traffic.sent.items → IsTrafficOf run c traffic
    → (p : ℕ) (m : MsgId) → HasSent run traffic.sent.items p m → DeliversOrEnds run p c m
owned run c traffic clean is p m has = elim (all_at (IsOwned traffic.ended) traffic.sent.items has.at has.sent clean has.stands) [
  | inl by ↦ inl (rw (← has.message) (((is.sent has.at has.sent has.stands).by.exact has.sent.sender p has.sender).0 by))
  | inr ended ↦ inr ((is.ended.exact has.sent.sender p has.sender).0 ended)
]

pub own_met : (traffic : Traffic) → All (IsOwned traffic.ended) traffic.sent.items → Shows spec.OwnDelivery traffic
own_met traffic clean = record {
  met = λ run c meets is. record { each = λ p i m sends. owned run c traffic clean is p m (is.all_sent p i m sends) };
}
