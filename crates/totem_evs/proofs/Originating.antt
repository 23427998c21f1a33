-- In a run in which the first two passes find no fault, each transitional configuration follows a regular one, and what is
-- in a configuration is after a change to it.
use Rattle.totem_evs.proofs.Common.{◌≡◌, ◌⊎◌, inl, inr, ℕ, zero, suc, ◌<◌, List, slice_get, Option, Some, None, refl, arith, RingId, ConfId, Regular, MsgId, log_of, ChangesTo, IsChange, Sends, Delivers, IsRegular, IsTransitional, StandsIn, Follows, Com, IsNextChange, DeliversIn, MeetsPasses, IsRing}
use Rattle.totem_evs.specs.declared.entry.Entry.{Entry}
use Rattle.totem_evs.specs.declared.entry.Entry.TheVariants.{Conf, Send, Deliver, Fail}
use Rattle.totem_evs.specs.declared.log.Log.{Log}
use Rattle.totem_evs.proofs.Consistent.{not_both}
use Rattle.totem_evs.proofs.Standing.{less_or_not}

-- ---- the last change before an index

-- j is the last change before n
pub record LastBefore (log : List Entry) (n j : ℕ) : Type 0 where
  pub before : j < n
  pub change : IsChange log j
  pub none_between : (k : ℕ) → j < k → k < n → IsChange log k → ⊥

-- no change is before n
pub record NoneBefore (log : List Entry) (n : ℕ) : Type 0 where
  pub none : (k : ℕ) → k < n → IsChange log k → ⊥

entry_changes : (log : List Entry) (i : ℕ) (x : Option Entry) → slice_get log i ≡ x → IsChange log i ⊎ (IsChange log i → ⊥)
entry_changes log i None at = inr (λ c. cc)
entry_changes log i (Some (Conf x ms)) at = inl (x, (ms, at))
entry_changes log i (Some (Send m x s)) at = inr (λ (y, (ms, k)). cc)
entry_changes log i (Some (Deliver m x)) at = inr (λ (y, (ms, k)). cc)
entry_changes log i (Some (Fail x)) at = inr (λ (y, (ms, k)). cc)

pub change_or_not : (log : List Entry) (i : ℕ) → IsChange log i ⊎ (IsChange log i → ⊥)
change_or_not log i = entry_changes log i (slice_get log i) refl

-- no change is at n, and none in what is before it
one_less : (log : List Entry) (n k : ℕ) → (IsChange log n → ⊥) → (k < n → IsChange log k → ⊥) → k < suc n → IsChange log k → ⊥
one_less log n k never before lt c = elim (less_or_not k n) [
  | inl under ↦ before under c
  | inr rest ↦ elim rest [ inl over ↦ omega arith | inr same ↦ never (rw same at c) ]
]

pub last_before : (log : List Entry) (n : ℕ) → ((j : ℕ) × LastBefore log n j) ⊎ NoneBefore log n
last_before log zero = inr (record { none = λ k lt c. omega arith })
last_before log (suc n) = elim (change_or_not log n) [
  | inl here ↦ inl (n, record { before = omega arith; change = here; none_between = λ k above below c. omega arith })
  | inr never ↦ elim (last_before log n) [
    | inl (j, last) ↦ inl (j, record { before = omega (arith, last.before); change = last.change; none_between = λ k above. one_less log n k never (last.none_between k above) })
    | inr before ↦ inr (record { none = λ k. one_less log n k never (before.none k) })
  ]
]

-- ---- what a log is in

-- who sends or delivers in a configuration has changed to it
pub sent_in : (run : List Log) (p i : ℕ) (m : MsgId) (x : ConfId) → MeetsPasses run → Sends (log_of run p) i m x → StandsIn (log_of run p) i x
sent_in run p i m x meets (service, at) = (meets.placed p).named i x (Send m x service, at, refl)

pub delivered_in : (run : List Log) (p i : ℕ) (m : MsgId) (x : ConfId) → MeetsPasses run → Delivers (log_of run p) i m x → StandsIn (log_of run p) i x
delivered_in run p i m x meets at = (meets.placed p).named i x (Deliver m x, at, refl)

-- ---- what a transitional configuration follows

-- t follows a regular configuration
pub record HasOrigin (log : List Entry) (t : ConfId) : Type 0 where
  pub ring : RingId
  pub follows : Follows log ring t

same_turns : (x : ConfId) → IsRegular x → (c : RingId) × (x ≡ Regular c)
same_turns x h = grind arith

-- a change to a transitional configuration is the next after the one change to a regular one
pub origin : (run : List Log) (p i : ℕ) (t : ConfId) → MeetsPasses run → ChangesTo (log_of run p) i t → IsTransitional t → HasOrigin (log_of run p) t
origin run p i t meets (ns, at) moves = elim (last_before (log_of run p) i) [
  | inr none ↦ absurd (not_both t ((meets.turns.each p).regular_first i t (ns, at) none.none) moves)
  | inl (j, last) ↦ from_last j last last.change
]
  where
    of_ring : (j : ℕ) (y : ConfId) (c : RingId) → y ≡ Regular c → ChangesTo (log_of run p) j y → LastBefore (log_of run p) i j → HasOrigin (log_of run p) t
    of_ring j y c is change last =
        let here : ChangesTo (log_of run p) j (Regular c) = rw is at change in
        record {
          ring = c;
          follows = record {
            from = j;
            to = i;
            first = record { change = here; none_before = λ k lt other. let same = meets.one.once p k j (Regular c) other here in omega arith };
            next = record { change = (t, (ns, at)); later = last.before; none_between = last.none_between };
            change = (ns, at);
            transitional = moves;
          };
        }

    from_last : (j : ℕ) → LastBefore (log_of run p) i j → IsChange (log_of run p) j → HasOrigin (log_of run p) t
    from_last j last (y, (ms, at_j)) =
        let next : IsNextChange (log_of run p) j i = record { change = (t, (ns, at)); later = last.before; none_between = last.none_between } in
        let regular = ((meets.turns.each p).turns j i y t ms ns (record { first = at_j; second = at; next = next })).1 moves in
        let c = same_turns y regular in
        of_ring j y c.0 c.1 (ms, at_j) last

-- ---- rings

-- p's log is in c, or in what follows c, so that c is one of the rings
pub ring_of_standing : (run : List Log) (p i : ℕ) (c : RingId) (d : ConfId) → StandsIn (log_of run p) i d → Com (log_of run p) c d → IsRing run c
ring_of_standing run p i c d stands h = grind arith

pub ring_of_delivery : (run : List Log) (p i : ℕ) (c : RingId) (m : MsgId) → MeetsPasses run → DeliversIn (log_of run p) c m i → IsRing run c
ring_of_delivery run p i c m meets (d, delivers, stays) = ring_of_standing run p i c d (delivered_in run p i m d meets delivers) stays

pub ring_of_send : (run : List Log) (p i : ℕ) (c : RingId) (m : MsgId) → MeetsPasses run → Sends (log_of run p) i m (Regular c) → IsRing run c
ring_of_send run p i c m meets sends = ring_of_standing run p i c (Regular c) (sent_in run p i m (Regular c) meets sends) (inl refl)

-- ---- where a message was sent

-- what follows c is not regular
pub same_com : (log : List Entry) (c d : RingId) → Com log c (Regular d) → d ≡ c
same_com log c d h = grind arith
