-- The change before another one, and what may follow it.
use Rattle.totem_evs.proofs.NextChanges.{no_change}
use Rattle.totem_judge_run.proofs.Common.{below_more, ◌<◌, ◌≡◌, ◌↔◌, ℕ, ◌+◌, inl, inr, List, slice_get, Option, Some, None, sym, ◌∙◌, arith, All, Contains, RingId, ConfId, Regular, Transitional, Entry, Conf, ChangesWith, IsChange, IsRegular, IsTransitional, ChangesNext, NoneBefore, StandsBefore, IsLastBefore, ComesFrom}
use Rattle.totem_judge_run.specs.Succession.{IsWrongSuccession}
use Rattle.totem_judge_run.proofs.Decisions.{neither_below, all_or_not, same_ring_or_not}

-- ---- along a log

-- an entry that is no change leaves it
pub still_before : (log : List Entry) (at : ℕ) (before : Option ℕ) (e : Entry) → slice_get log at ≡ Some e → ((x : ConfId) (ms : List ℕ) → e ≡ Conf x ms → ⊥) → IsLastBefore log at before → IsLastBefore log (at + 1) before
still_before log at None e here not_conf last = record { none = below_more (λ k. IsChange log k → ⊥) at last.none (no_change log at e here not_conf) }
still_before log at (Some i) e here not_conf last = record {
  change = last.change;
  earlier = omega (arith, last.earlier);
  none_between = λ k later lt. below_more (λ j. i < j → IsChange log j → ⊥) at (λ j under after. last.none_between j after under)
      (λ after. no_change log at e here not_conf) k lt later;
}

pub now_before : (log : List Entry) (at : ℕ) (e : Entry) (x : ConfId) (ms : List ℕ) → slice_get log at ≡ Some e → e ≡ Conf x ms → StandsBefore log (at + 1) at
now_before log at e x ms here is = record { change = (x, (ms, rw is at here)); earlier = omega arith; none_between = λ k later lt change. omega arith }

-- ---- what may follow it

-- the change before a change is the one that it follows
pub one_before : (log : List Entry) (at i j : ℕ) (w x : ConfId) (ls ms : List ℕ) → StandsBefore log at i → ChangesNext log j at w x ls ms → i ≡ j
one_before log at i j w x ls ms last next = neither_below i j (λ under. last.none_between j under next.next.later (w, (ls, next.first))) (λ over. next.next.none_between i over last.earlier last.change)

pub regular_first : (log : List Entry) (at : ℕ) (before : Option ℕ) (x : ConfId) (ms : List ℕ) (c : RingId) → IsLastBefore log at before → ComesFrom log before x ms c → NoneBefore log at → IsRegular x
regular_first log at None x ms c last from none = (let is : x ≡ Regular c = from in rw is tt)
regular_first log at (Some i) x ms c last from none = absurd (none.none i last.earlier last.change)

pub same_entry : (log : List Entry) (i j : ℕ) (w v : ConfId) (ls ns : List ℕ) → i ≡ j → ChangesWith log i v ns → ChangesWith log j w ls → (v ≡ w) × (ns ≡ ls)
same_entry log i j w v ls ns same first second = grind arith

pub turns_right : (log : List Entry) (at j : ℕ) (before : Option ℕ) (w x : ConfId) (ls ms : List ℕ) (c : RingId) → IsLastBefore log at before → ComesFrom log before x ms c → ChangesNext log j at w x ls ms → IsWrongSuccession w ls x ms → ⊥
turns_right log at j None w x ls ms c last from next wrong = last.none j next.next.later (w, (ls, next.first))
turns_right log at j (Some i) w x ls ms c last from next wrong =
    let same = same_entry log i j w from.conf ls from.members (one_before log at i j w x ls ms last next) from.change next.first in
    from.right (rw (same.0, same.1) wrong)

pub one_origin : (log : List Entry) (at j : ℕ) (before : Option ℕ) (d : RingId) (x : ConfId) (ls ms : List ℕ) (c : RingId) → IsTransitional x → IsLastBefore log at before → ComesFrom log before x ms c → ChangesNext log j at (Regular d) x ls ms → c ≡ d
one_origin log at j before d (Regular e) ls ms c trans last from next = absurd trans
one_origin log at j None d (Transitional l n) ls ms c trans last from next = (let is : Transitional l n ≡ Regular c = from in cc)
one_origin log at j (Some i) d (Transitional l n) ls ms c trans last from next =
    let same = same_entry log i j (Regular d) from.conf ls from.members (one_before log at i j (Regular d) (Transitional l n) ls ms last next) from.change next.first in
    let both : Regular c ≡ Regular d = sym from.origin ∙ same.0 in
    cc

-- ---- turns

-- a succession that is not wrong meets the requirements
pub right_kinds : (x y : ConfId) (ms ns : List ℕ) → (IsWrongSuccession x ms y ns → ⊥) → IsRegular x ↔ IsTransitional y
right_kinds x y ms ns h = grind arith

pub right_from : (c : RingId) (y : ConfId) (ms ns : List ℕ) → IsTransitional y → (IsWrongSuccession (Regular c) ms y ns → ⊥) → All (Contains ms) ns
right_from c (Regular d) ms ns trans right = absurd trans
right_from c (Transitional l n) ms ns trans right = elim (all_or_not ms ns) [ inl all ↦ all | inr never ↦ absurd (right never) ]

pub right_to : (x : ConfId) (c : RingId) (ms ns : List ℕ) → IsTransitional x → (IsWrongSuccession x ms (Regular c) ns → ⊥) → All (Contains ns) ms
right_to (Regular d) c ms ns trans right = absurd trans
right_to (Transitional l n) c ms ns trans right = elim (all_or_not ns ms) [ inl all ↦ all | inr never ↦ absurd (right (inl never)) ]

pub right_name : (next c : RingId) (least : ℕ) (ms ns : List ℕ) → (IsWrongSuccession (Transitional least next) ms (Regular c) ns → ⊥) → c ≡ next
right_name next c least ms ns right = elim (same_ring_or_not c next) [ inl same ↦ same | inr never ↦ absurd (right (inr never)) ]
