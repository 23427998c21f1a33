-- Deciding whether a log has an entry of some kind.
use Rattle.totem_judge_run.proofs.Common.{arith, ◌≡◌, ℕ, ◌⊎◌, inl, inr, List, slice_get, Some, refl, RingId, ConfId, MsgId, Entry, Conf, Deliver, ChangesTo, Delivers, Com}
use Rattle.totem_evs.specs.Following.{HasDelivered}
use Rattle.totem_judge_run.proofs.Decisions.{both_or_not}
use Rattle.totem_judge_run.proofs.SentOrNot.{first_or_none, same_message_or_not, change_to_or_not, change_of, in_or_not}

-- what can be decided, and cannot fail, holds
pub sure : {P : Type 0} → P ⊎ (P → ⊥) → ((P → ⊥) → ⊥) → P
sure decided never = grind arith

-- a change to x
pub changes_or_not : (log : List Entry) (x : ConfId) → ((i : ℕ) × ChangesTo log i x) ⊎ ((i : ℕ) → ChangesTo log i x → ⊥)
changes_or_not log x = elim (first_or_none log (λ i e. _) (λ i e. change_to_or_not x e)) [
  | inl found ↦ inl (found.index, change_of log found.index x found.entry found.at found.has)
  | inr none ↦ inr (λ i (ms, h). none i (Conf x ms) h refl)
]

-- a delivery of m for whose index and configuration P holds
IsDelivery : (ℕ → ConfId → Type 0) → MsgId → ℕ → Entry → Type 0
IsDelivery P m i (Deliver n x) = (n ≡ m) × P i x
IsDelivery P m i _ = ⊥

is_delivery_or_not : (P : ℕ → ConfId → Type 0) (m : MsgId) → ((i : ℕ) (x : ConfId) → P i x ⊎ (P i x → ⊥)) → (i : ℕ) (e : Entry) → IsDelivery P m i e ⊎ (IsDelivery P m i e → ⊥)
unfolding IsDelivery
is_delivery_or_not P m decide i (Deliver n x) = both_or_not (same_message_or_not n m) (decide i x)
is_delivery_or_not P m decide i other = inr (λ h. h)

delivery_of : (P : ℕ → ConfId → Type 0) (log : List Entry) (m : MsgId) (i : ℕ) (e : Entry) → slice_get log i ≡ Some e → IsDelivery P m i e → (j : ℕ) × (x : ConfId) × Delivers log j m x × P j x
unfolding IsDelivery
delivery_of P log m i other at h = grind arith

pub delivery_or_not : (P : ℕ → ConfId → Type 0) (log : List Entry) (m : MsgId) → ((i : ℕ) (x : ConfId) → P i x ⊎ (P i x → ⊥)) → ((i : ℕ) × (x : ConfId) × Delivers log i m x × P i x) ⊎ ((i : ℕ) (x : ConfId) → Delivers log i m x → P i x → ⊥)
unfolding IsDelivery
delivery_or_not P log m decide = elim (first_or_none log (IsDelivery P m) (is_delivery_or_not P m decide)) [
  | inl found ↦ inl (delivery_of P log m found.index found.entry found.at found.has)
  | inr none ↦ inr (λ i x at holds. none i (Deliver m x) at (refl, holds))
]

pub has_delivered_or_not : (log : List Entry) (c : RingId) (m : MsgId) → HasDelivered log c m ⊎ (HasDelivered log c m → ⊥)
has_delivered_or_not log c m = elim (delivery_or_not (λ i x. Com log c x) log m (λ i x. in_or_not log c x)) [
  | inl (i, x, at, inside) ↦ inl (i, (x, at, inside))
  | inr never ↦ inr (λ (i, (x, at, inside)). never i x at inside)
]
