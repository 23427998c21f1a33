-- How what is listed of a run compares.
use Rattle.std.proofs.Common.{arith}
use Rattle.totem_plain.proofs.Common.{◌≡◌, ◌⊎◌, ◌<◌, ℕ, inl, inr, ap, ◌∙◌, nat_cmp, ordering_then, id_of, life_of, RingId, ConfId, MsgId, PendingBelow, WaitingBelow}
use Rattle.std.specs.declared.cmp.Ordering.TheVariants.{Less}
use Rattle.totem_names.specs.Orders.{MessageBelow, RingBelow, ConfBelow}
use Rattle.totem_names.specs.contracts.life.ProcOrd.TheImpl as life
use Rattle.totem_names.specs.contracts.ring.RingIdOrd.TheImpl as ring
use Rattle.totem_names.specs.contracts.conf.ConfIdOrd.TheImpl as conf
use Rattle.totem_names.specs.contracts.message.MsgIdOrd.TheImpl as message
use Rattle.totem_names.proofs.Lives.{below_is_less}
use Rattle.totem_names.proofs.Exact.{exact_ring, exact_conf}
use Rattle.totem_evs.specs.declared.pending.Pending.{Pending}
use Rattle.totem_evs.specs.declared.pending.Waiting.{Waiting}
use Rattle.totem_evs.specs.contracts.pending.PendingOrd.TheImpl as pending
use Rattle.totem_evs.specs.contracts.pending.WaitingOrd.TheImpl as waiting
use Rattle.totem_evs.proofs.ProcOrder.{exact_proc}
use Rattle.totem_judge_run.proofs.PendingOrder.{less_first, compared, below_from_less}

-- by one number, and then by another
numbers_below : (a b k l : ℕ) → ordering_then (nat_cmp a b) (nat_cmp k l) ≡ Less → (a < b) ⊎ ((a ≡ b) × (k < l))
numbers_below a b k l e = grind (arith, less_first, compared)

proc_below : (a b : ℕ) → life.cmp-value.it a b ≡ Less → a < b
proc_below a b e = (below_is_less a b).0 (numbers_below (id_of a) (id_of b) (life_of a) (life_of b) e)

-- by ring, and then by number
in_ring_below : (c d : RingId) (k l : ℕ) → ordering_then (ring.cmp-value.it c d) (nat_cmp k l) ≡ Less → RingBelow c d ⊎ ((c ≡ d) × (k < l))
in_ring_below c d k l e = grind (arith, less_first, below_from_less, exact_ring, compared)

message_below : (m n : MsgId) → message.cmp-value.it m n ≡ Less → MessageBelow m n
message_below m n e = in_ring_below m.ring n.ring m.number n.number e

conf_below : (x y : ConfId) → conf.cmp-value.it x y ≡ Less → ConfBelow x y
conf_below x y h = grind (arith, below_from_less, in_ring_below)

pub pending_below : (a b : Pending) → pending.cmp-value.it a b ≡ Less → PendingBelow a b
pending_below a b e = grind (arith, less_first, proc_below, exact_proc, message_below)

pub waiting_below : (a b : Waiting) → waiting.cmp-value.it a b ≡ Less → WaitingBelow a b
waiting_below a b e = elim (less_first (life.cmp-value.it a.proc b.proc) (ordering_then (conf.cmp-value.it a.conf b.conf) (life.cmp-value.it a.other b.other)) e) [
  | inl lt ↦ inl (proc_below a.proc b.proc lt)
  | inr (procs, rest) ↦ elim (less_first (conf.cmp-value.it a.conf b.conf) (life.cmp-value.it a.other b.other) rest) [
    | inl lt ↦ inr (inl (exact_proc a.proc b.proc procs, conf_below a.conf b.conf lt))
    | inr (same, lt) ↦ inr (inr (exact_proc a.proc b.proc procs, exact_conf a.conf b.conf same, proc_below a.other b.other lt))
  ]
]

abbrev pending_of : ℕ → MsgId → Pending
pending_of p m = record { proc = p; msg = m }

pub same_pending : (x y : Pending) → x.proc ≡ y.proc → x.msg ≡ y.msg → x ≡ y
same_pending x y procs msgs = ap (λ (q : ℕ). pending_of q x.msg) procs ∙ ap (λ (n : MsgId). pending_of y.proc n) msgs
