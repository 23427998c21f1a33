-- A run has at most one list of its regular configurations, of what is pending, and of the waiting processes.
use Rattle.totem_cert.proofs.Common.{◌≡◌, inl, inr, sym, arith, ConfId}
use Rattle.totem_names.specs.Orders.{RingBelow, MessageBelow, ConfBelow, IsStrictOrder}
use Rattle.totem_names.proofs.Orderings.{ring_strict, message_strict, conf_strict}
use Rattle.totem_evs.specs.declared.pending.Pending.{Pending}
use Rattle.totem_evs.specs.declared.pending.Waiting.{Waiting}
use Rattle.totem_evs.specs.Unsettled.{PendingBelow, WaitingBelow}
use Rattle.totem_laws.specs.OneAnswer.{RingsAreOne, PendingIsOne, WaitingIsOne}
use Rattle.totem_laws.proofs.RisingLists.{IsOneWay, one_rising}

one_way : {X : Type 0} (R : X → X → Type 0) → IsStrictOrder R → IsOneWay R
one_way R order = record { never = λ a b below above. order.strict a (order.goes_on a b a below above) }

pub rings_one : RingsAreOne
rings_one run a b are also =
    one_rising RingBelow a b (one_way RingBelow ring_strict) are.rising also.rising
    (λ c here. (also.exact c).1 ((are.exact c).0 here)) (λ c here. (are.exact c).1 ((also.exact c).0 here))

messages : IsOneWay MessageBelow
messages = one_way MessageBelow message_strict

configurations : IsOneWay ConfBelow
configurations = one_way ConfBelow conf_strict

pending_one_way : (a b : Pending) → PendingBelow a b → PendingBelow b a → ⊥
pending_one_way a b (inl h) (inl k) = omega arith
pending_one_way a b (inl h) (inr (same, k)) = omega arith
pending_one_way a b (inr (same, h)) (inl k) = omega arith
pending_one_way a b (inr (same, h)) (inr (also, k)) = messages.never a.msg b.msg h k

pub pending_one : PendingIsOne
pending_one run a b are also =
    one_rising PendingBelow a b (record { never = pending_one_way }) are.rising also.rising
    (λ x here. (also.exact x.proc x.msg).1 ((are.exact x.proc x.msg).0 here)) (λ x here. (are.exact x.proc x.msg).1 ((also.exact x.proc x.msg).0 here))

same_conf : (x y : ConfId) → ConfBelow x y → x ≡ y → ⊥
same_conf x y below same = conf_strict.strict y (rw same at below)

waiting_one_way : (a b : Waiting) → WaitingBelow a b → WaitingBelow b a → ⊥
waiting_one_way a b (inl h) (inl k) = omega arith
waiting_one_way a b (inl h) (inr (inl (same, k))) = omega arith
waiting_one_way a b (inl h) (inr (inr (same, one, k))) = omega arith
waiting_one_way a b (inr (inl (same, h))) (inl k) = omega arith
waiting_one_way a b (inr (inr (same, one, h))) (inl k) = omega arith
waiting_one_way a b (inr (inl (same, h))) (inr (inl (also, k))) = configurations.never a.conf b.conf h k
waiting_one_way a b (inr (inl (same, h))) (inr (inr (also, one, k))) = same_conf a.conf b.conf h (sym one)
waiting_one_way a b (inr (inr (same, one, h))) (inr (inl (also, k))) = same_conf b.conf a.conf k (sym one)
waiting_one_way a b (inr (inr (same, one, h))) (inr (inr (also, two, k))) = omega arith

pub waiting_one : WaitingIsOne
waiting_one run a b are also =
    one_rising WaitingBelow a b (record { never = waiting_one_way }) are.rising also.rising
    (λ x here. (also.exact x.proc x.conf x.other).1 ((are.exact x.proc x.conf x.other).0 here)) (λ x here. (are.exact x.proc x.conf x.other).1 ((also.exact x.proc x.conf x.other).0 here))
