-- A message was sent for a delivery, or it was not.
use Rattle.totem_judge_run.proofs.Common.{below_more, ◌≡◌, ℕ, zero, suc, ◌<◌, ◌⊎◌, inl, inr, List, [], ◌∷◌, length, slice_get, Option, Some, None, refl, ap, arith, slice_get_within, RingId, ConfId, Regular, MsgId, Entry, Conf, Send, Log, log_of, ChangesTo, IsChange, IsTransitional, IsFirstChange, IsNextChange, Follows, Com, IsChangeTo, log_of_cases, one_next, same_first}
use Rattle.std.proofs.lemmas.Bool.{cases_eq}
use Rattle.totem_evs.specs.Events.{Sends}
use Rattle.totem_judge_run.specs.Sent.{WasSentTo, IsSendTo}
use Rattle.totem_judge_run.proofs.Staying.{same_change}
use Rattle.totem_judge_run.proofs.Decisions.{both_or_not, same_or_not, below_or_not, same_ring_or_not}

pub same_conf_or_not : (x y : ConfId) → (x ≡ y) ⊎ (x ≡ y → ⊥)
same_conf_or_not x y = grind (arith, same_or_not, same_ring_or_not, both_or_not, cases_eq)

same_message : (m n : MsgId) → m.ring ≡ n.ring → m.number ≡ n.number → m ≡ n
same_message m n ring number = grind arith

pub same_message_or_not : (m n : MsgId) → (m ≡ n) ⊎ (m ≡ n → ⊥)
same_message_or_not m n = same_or_not (both_or_not (same_ring_or_not m.ring n.ring) (cases_eq m.number n.number)) (λ h. same_message m n h.0 h.1) (λ e. (ap (λ (x : MsgId). x.ring) e, ap (λ (x : MsgId). x.number) e))

-- one of the entries before n has the fact, or none has
pub record NoneHas (log : List Entry) (P : ℕ → Entry → Type 0) (n : ℕ) : Type 0 where
  pub none : (i : ℕ) → i < n → (e : Entry) → slice_get log i ≡ Some e → P i e → ⊥

-- the first entry that has it
pub record FirstWith (log : List Entry) (P : ℕ → Entry → Type 0) : Type 0 where
  pub index : ℕ
  pub entry : Entry
  pub at : slice_get log index ≡ Some entry
  pub has : P index entry
  pub before : NoneHas log P index

first_before : (log : List Entry) (P : ℕ → Entry → Type 0) → ((i : ℕ) (e : Entry) → P i e ⊎ (P i e → ⊥)) → (n : ℕ) → FirstWith log P ⊎ NoneHas log P n
first_before log P decide zero = inr (record { none = λ i lt e at h. omega arith })
first_before log P decide (suc n) = elim (first_before log P decide n) [ inl found ↦ inl found | inr none ↦ look (slice_get log n) refl none ]
  where
    more : NoneHas log P n → ((e : Entry) → slice_get log n ≡ Some e → P n e → ⊥) → NoneHas log P (suc n)
    more none here = record { none = λ i lt. below_more (λ k. (e : Entry) → slice_get log k ≡ Some e → P k e → ⊥) n none.none here i (omega arith) }

    look : (o : Option Entry) → slice_get log n ≡ o → NoneHas log P n → FirstWith log P ⊎ NoneHas log P (suc n)
    look None at none = inr (more none (λ e at' h. cc))
    look (Some e) at none = elim (decide n e) [
      | inl here ↦ inl (record { index = n; entry = e; at = at; has = here; before = none })
      | inr never ↦ inr (more none (λ f at' h. let same : f ≡ e = cc in never (rw same at h)))
    ]

pub first_or_none : (log : List Entry) (P : ℕ → Entry → Type 0) → ((i : ℕ) (e : Entry) → P i e ⊎ (P i e → ⊥)) → FirstWith log P ⊎ ((i : ℕ) (e : Entry) → slice_get log i ≡ Some e → P i e → ⊥)
first_or_none log P decide = elim (first_before log P decide (length log)) [
  | inl found ↦ inl found
  | inr none ↦ inr (λ i e at h. none.none i (slice_get_within log i e at) e at h)
]

-- the first change to x, and the next change after an index
pub change_to_or_not : (x : ConfId) (e : Entry) → IsChangeTo e x ⊎ (IsChangeTo e x → ⊥)
change_to_or_not x (Conf y ms) = same_conf_or_not y x
change_to_or_not x other = inr (λ h. h)

pub change_of : (log : List Entry) (i : ℕ) (x : ConfId) (e : Entry) → slice_get log i ≡ Some e → IsChangeTo e x → ChangesTo log i x
change_of log i x e h k = grind arith

pub first_change_or_not : (log : List Entry) (x : ConfId) → ((i : ℕ) × IsFirstChange log x i) ⊎ ((i : ℕ) → ChangesTo log i x → ⊥)
first_change_or_not log x = elim (first_or_none log (λ i e. IsChangeTo e x) (λ i e. change_to_or_not x e)) [
  | inl found ↦ inl (found.index, record { change = change_of log found.index x found.entry found.at found.has; none_before = λ k lt (ms, h). found.before.none k lt (Conf x ms) h refl })
  | inr none ↦ inr (λ i (ms, h). none i (Conf x ms) h refl)
]

abbrev pub IsAnyChange : Entry → Type 0
IsAnyChange (Conf y ms) = Unit {0}
IsAnyChange other = ⊥

pub any_change_or_not : (e : Entry) → IsAnyChange e ⊎ (IsAnyChange e → ⊥)
any_change_or_not e = grind arith

pub any_change_of : (log : List Entry) (i : ℕ) (e : Entry) → slice_get log i ≡ Some e → IsAnyChange e → IsChange log i
any_change_of log i e h k = grind arith

pub next_change_or_not : (log : List Entry) (i : ℕ) → ((j : ℕ) × IsNextChange log i j) ⊎ ((j : ℕ) → IsNextChange log i j → ⊥)
next_change_or_not log i = elim (first_or_none log (λ j e. (i < j) × IsAnyChange e) (λ j e. both_or_not (below_or_not i j) (any_change_or_not e))) [
  | inl found ↦ inl (
    found.index,
    record {
      change = any_change_of log found.index found.entry found.at found.has.1;
      later = found.has.0;
      none_between = λ k lt below (x, (ms, h)). found.before.none k below (Conf x ms) h (lt, tt);
    },
  )
  | inr none ↦ inr (λ j next. let c = next.change in none j (Conf c.0 c.1.0) c.1.1 (next.later, tt))
]

pub transitional_or_not : (x : ConfId) → IsTransitional x ⊎ (IsTransitional x → ⊥)
transitional_or_not x = grind arith

next_is : (log : List Entry) (c : RingId) (d : ConfId) (i j : ℕ) → IsFirstChange log (Regular c) i → IsNextChange log i j → Follows log c d → ChangesTo log j d
next_is log c d i j first next f =
    let from = same_first log (Regular c) f.from i f.first first in
    let to = one_next log i f.to j (rw from at f.next) next in rw to at f.change

pub follows_or_not : (log : List Entry) (c : RingId) (d : ConfId) → Follows log c d ⊎ (Follows log c d → ⊥)
follows_or_not log c d = elim (first_change_or_not log (Regular c)) [
  | inr none ↦ inr (λ f. none f.from f.first.change)
  | inl first ↦ elim (next_change_or_not log first.0) [
    | inr none ↦ inr (λ f. none f.to (rw (same_first log (Regular c) f.from first.0 f.first first.1) at f.next))
    | inl next ↦ elim (transitional_or_not d) [
      | inr stays ↦ inr (λ f. stays f.transitional)
      | inl moves ↦ elim (same_conf_or_not next.1.change.0 d) [
        | inl same ↦ inl (record { from = first.0; to = next.0; first = first.1; next = next.1; change = rw same at next.1.change.1; transitional = moves })
        | inr other ↦ inr (λ f. other (same_change log next.0 next.0 next.1.change.0 d refl next.1.change.1
            (next_is log c d first.0 next.0 first.1 next.1 f)))
      ]
    ]
  ]
]

pub in_or_not : (log : List Entry) (c : RingId) (d : ConfId) → Com log c d ⊎ (Com log c d → ⊥)
in_or_not log c d = (let same = same_conf_or_not d (Regular c) in let follows = follows_or_not log c d in grind arith)

send_or_not : (log : List Entry) (m : MsgId) (d : ConfId) (q j : ℕ) (e : Entry) → IsSendTo log m d q j e ⊎ (IsSendTo log m d q j e → ⊥)
send_or_not log m d q j (Send n (Regular c) s) = both_or_not (same_message_or_not n m) (in_or_not log c d)
send_or_not log m d q j other = inr (λ h. h)

-- one of the logs has the fact, or none has
some_log_or_none : (Q : ℕ → Type 0) → ((p : ℕ) → Q p ⊎ (Q p → ⊥)) → (logs : List Log) → ((p : ℕ) × Q p) ⊎ ((k : ℕ) (l : Log) → slice_get logs k ≡ Some l → Q l.proc → ⊥)
some_log_or_none Q decide [] = inr (λ k l at h. cc)
some_log_or_none Q decide (l ∷ logs) = elim (decide l.proc) [
  | inl here ↦ inl (l.proc, here)
  | inr never ↦ elim (some_log_or_none Q decide logs) [ inl found ↦ inl found | inr none ↦ inr (λ k x at h. beyond k x at h never none) ]
]
  where
    beyond : (k : ℕ) (x : Log) → slice_get (l ∷ logs) k ≡ Some x → Q x.proc → (Q l.proc → ⊥) → ((k : ℕ) (l : Log) → slice_get logs k ≡ Some l → Q l.proc → ⊥) → ⊥
    beyond k x at h never none = grind arith

-- p has a send for it
abbrev HasSend : List Log → List Entry → MsgId → ConfId → ℕ → Type 0
HasSend run log m d p = (c : RingId) × ((j : ℕ) × Sends (log_of run p) j m (Regular c)) × Com log c d

send_of : (run : List Log) (log : List Entry) (m : MsgId) (d : ConfId) (p j : ℕ) (e : Entry) → slice_get (log_of run p) j ≡ Some e → IsSendTo log m d p j e → HasSend run log m d p
send_of run log m d p j (Send n (Regular c) s) at (same, inside) = (c, (j, (s, rw same at at)), inside)
send_of run log m d p j other at h = absurd h

has_send_or_not : (run : List Log) (log : List Entry) (m : MsgId) (d : ConfId) (p : ℕ) → HasSend run log m d p ⊎ (HasSend run log m d p → ⊥)
has_send_or_not run log m d p = elim (first_or_none (log_of run p) (λ j e. IsSendTo log m d p j e) (λ j e. send_or_not log m d p j e)) [
  | inl found ↦ inl (send_of run log m d p found.index found.entry found.at found.has)
  | inr none ↦ inr (λ (c, (j, (s, at)), inside). none j (Send m (Regular c) s) at (refl, inside))
]

pub sent_or_not : (run : List Log) (log : List Entry) (m : MsgId) (d : ConfId) → WasSentTo run log m d ⊎ (WasSentTo run log m d → ⊥)
sent_or_not run log m d = elim (some_log_or_none (HasSend run log m d) (has_send_or_not run log m d) run) [
  | inl (p, (c, (j, sends), inside)) ↦ inl (c, (p, j, sends), inside)
  | inr none ↦ inr (λ (c, (q, j, (s, at)), inside). elim (log_of_cases run q) [
    | inl empty ↦ (let there : slice_get {X = Entry} [] j ≡ Some (Send m (Regular c) s) = rw empty at at in cc)
    | inr (k, l, at_k, same, is) ↦ none k l at_k (rw same (c, (j, (s, at)), inside))
  ])
]
