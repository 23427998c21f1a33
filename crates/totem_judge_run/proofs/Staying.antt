-- A change to a regular configuration, the next change and the one after that bound the stay in it.
use Rattle.totem_judge_run.proofs.Common.{◌≡◌, ℕ, ◌-◌, ◌<◌, ◌≤◌, ◌⊎◌, inl, inr, List, length, slice_get, get_or, Some, refl, arith, slice_get_within, slice_get-get_or, RingId, ConfId, Regular, Entry, Conf, Fail, ChangesTo, IsChange, IsNextChange, IsFirstChange, LastChange, Follows, Com, NeverFails, FailedIn, StaysIn, IsNextOrEnd, Names, StandsIn, StaysInPlace, TakesTurns, less_or_not, one_next, NoneBetween}
use Rattle.totem_judge_run.specs.Stays.{Bounds, TurnsAt, IsStay}
use Rattle.totem_judge_run.proofs.Decisions.{neither_below}
use Rattle.totem_judge_run.proofs.LogEnds.{fails_last}

-- what a log keeps of the specifications of the first two passes
pub record KeepsRules (log : List Entry) : Type 0 where
  pub placed : StaysInPlace log
  pub once : (i j : ℕ) (x : ConfId) → ChangesTo log i x → ChangesTo log j x → i ≡ j
  pub turns : TakesTurns log

-- an entry that names a configuration is no change
pub names_no_change : (log : List Entry) (i : ℕ) (x : ConfId) → Names log i x → IsChange log i → ⊥
names_no_change log i x h k = grind arith

pub names_within : (log : List Entry) (i : ℕ) (x : ConfId) → Names log i x → i < length log
names_within log i x (e, at, names) = slice_get_within log i e at

pub change_within : (log : List Entry) (i : ℕ) (x : ConfId) → ChangesTo log i x → i < length log
change_within log i x (ms, h) = slice_get_within log i (Conf x ms) h

pub same_change : (log : List Entry) (i j : ℕ) (x y : ConfId) → i ≡ j → ChangesTo log i x → ChangesTo log j y → x ≡ y
same_change log i j x y e (ms, h) (ns, k) = let at : slice_get log j ≡ Some (Conf x ms) = rw e at h in cc

-- if the last change before an entry is the one at a, the entry is before the next change
before_next : (log : List Entry) (a b i : ℕ) (x : ConfId) → IsNextOrEnd log a b → Names log i x → (s : StandsIn log i x) → s.from ≡ a → i < b
before_next log a b i x next names s same = elim (less_or_not i b) [
  | inl lt ↦ lt
  | inr (inl gt) ↦ absurd (s.none_between b (omega (arith, next.later)) gt (next.change (omega (arith, names_within log i x names))))
  | inr (inr at) ↦ absurd (names_no_change log i x names (rw at (next.change (rw (← at) (names_within log i x names)))))
]

-- an entry between two neighbouring changes names the configuration of the first
between_names : (log : List Entry) (a b i : ℕ) (x y : ConfId) → ChangesTo log a x → IsNextOrEnd log a b → a < i → i < b → StandsIn log i y → y ≡ x
between_names log a b i x y change next lt below s =
    let same = neither_below s.from a (λ under. s.none_between a under lt (x, change)) (λ over. next.none_between s.from over (omega (arith, s.before)) (y, s.change)) in
    same_change log s.from a y x same s.change change

is_next : (log : List Entry) (i j : ℕ) → IsNextOrEnd log i j → j < length log → IsNextChange log i j
is_next log i j next lt = record { change = next.change lt; later = next.later; none_between = next.none_between }

-- the change to c is the first one, and what follows c is the next
pub first_of : (log : List Entry) (c : RingId) (i : ℕ) → KeepsRules log → ChangesTo log i (Regular c) → IsFirstChange log (Regular c) i
first_of log c i rules change = record { change = change; none_before = λ k lt h. (let same = rules.once k i (Regular c) h change in omega arith) }

follows_at : (log : List Entry) (c : RingId) (d : ConfId) (from turn end : ℕ) → KeepsRules log → Bounds log c from turn end → Follows log c d → (turn < length log) × ChangesTo log turn d
follows_at log c d from turn end rules bounds f =
    let first = rules.once f.from from (Regular c) f.first.change bounds.change in
    let next : IsNextChange log from f.to = rw first at f.next in
    let never : length log ≤ turn → ⊥ =
    λ past. bounds.two.first.none_between f.to next.later (omega (arith, change_within log f.to d f.change)) next.change in
    let within : turn < length log = grind arith in
    (within, rw (one_next log from f.to turn next (is_next log from turn bounds.two.first within)) at f.change)

follows : (log : List Entry) (c : RingId) (from turn end : ℕ) → KeepsRules log → Bounds log c from turn end → turn < length log → TurnsAt log c turn
follows log c from turn end rules bounds lt =
    let there = bounds.two.first.change lt in
    let next = is_next log from turn bounds.two.first lt in
    record {
      conf = there.0;
      change = there.1;
      follows = record {
        from = from;
        to = turn;
        first = first_of log c from rules bounds.change;
        next = next;
        change = there.1;
        transitional = (rules.turns.turns from turn (Regular c) there.0 bounds.change.0 there.1.0 (record { first = bounds.change.1; second = there.1.1; next = next })).0 tt;
      };
    }

turn_or_end : (log : List Entry) (c : RingId) (from turn end : ℕ) → Bounds log c from turn end → (turn < length log) ⊎ ((length log ≡ turn) × (end ≡ turn))
turn_or_end log c from turn end bounds = grind (arith, less_or_not)

until : (log : List Entry) (c : RingId) (from turn end : ℕ) → Bounds log c from turn end → turn ≤ end
until log c from turn end bounds = grind (arith, turn_or_end)

-- if a change follows the change to c, or the stay continues after it
has_turn : (log : List Entry) (c : RingId) (from turn end : ℕ) → Bounds log c from turn end → turn < end → turn < length log
has_turn log c from turn end bounds lt = elim (turn_or_end log c from turn end bounds) [ inl within ↦ within | inr past ↦ absurd (omega (arith, past.1)) ]

is_here : (log : List Entry) (c : RingId) (from turn end : ℕ) → KeepsRules log → Bounds log c from turn end → (i : ℕ) (d : ConfId) → Names log i d → Com log c d → (from < i) × (i < end)
is_here log c from turn end rules bounds i d names inside = let s = rules.placed.named i d names in go s inside
  where
    go : StandsIn log i d → Com log c d → (from < i) × (i < end)
    go s (inl same) =
        let at : s.from ≡ from = rules.once s.from from (Regular c) (rw same at s.change) bounds.change in
        let lt : i < turn = before_next log from turn i d bounds.two.first names s at in
        (omega (arith, s.before), omega (arith, until log c from turn end bounds))
    go s (inr f) =
        let t = follows_at log c d from turn end rules bounds f in
        let at : s.from ≡ turn = rules.once s.from turn d s.change t.1 in
        (omega (arith, s.before, bounds.two.first.later), before_next log turn end i d (bounds.two.second t.0) names s at)

is_changed : (log : List Entry) (c : RingId) (from turn end : ℕ) → Bounds log c from turn end → (i : ℕ) → from < i → i < end → IsChange log i → i ≡ turn
is_changed log c from turn end bounds i lt below change =
    neither_below i turn (λ under. bounds.two.first.none_between i lt under change) (λ over. (bounds.two.second (has_turn log c from turn end bounds (omega arith))).none_between i over below change)

-- each entry inside names c or what follows it
regular_here : (log : List Entry) (c : RingId) (from turn end : ℕ) → KeepsRules log → Bounds log c from turn end → (i : ℕ) (d : ConfId) → from < i → i < turn → Names log i d → d ≡ Regular c
regular_here log c from turn end rules bounds i d lt below names = between_names log from turn i (Regular c) d bounds.change bounds.two.first lt below (rules.placed.named i d names)

following_here : (log : List Entry) (c : RingId) (from turn end : ℕ) → KeepsRules log → Bounds log c from turn end → (i : ℕ) (d : ConfId) → turn < i → i < end → Names log i d → Follows log c d
following_here log c from turn end rules bounds i d lt below names =
    let there = has_turn log c from turn end bounds (omega arith) in
    let t = follows log c from turn end rules bounds there in
    let same : d ≡ t.conf = between_names log turn end i t.conf d t.change (bounds.two.second there) lt below (rules.placed.named i d names) in
    rw same t.follows

names_in : (log : List Entry) (c : RingId) (from turn end : ℕ) → KeepsRules log → Bounds log c from turn end → (i : ℕ) (d : ConfId) → from < i → i < end → Names log i d → Com log c d
names_in log c from turn end rules bounds i d lt below names = elim (less_or_not i turn) [
  | inl under ↦ inl (regular_here log c from turn end rules bounds i d lt under names)
  | inr (inl over) ↦ inr (following_here log c from turn end rules bounds i d over below names)
  | inr (inr same) ↦ absurd (names_no_change log i d names (rw same (bounds.two.first.change (has_turn log c from turn end bounds (omega arith)))))
]

-- the last change of a stay that goes up to the end of its log
last_change : (log : List Entry) (c : RingId) (from turn end : ℕ) → KeepsRules log → Bounds log c from turn end → end ≡ length log → (d : ConfId) × LastChange log d × Com log c d
last_change log c from turn end rules bounds is_end = elim (turn_or_end log c from turn end bounds) [
  | inr past ↦ (
    Regular c,
    record { index = from; change = bounds.change; none_after = λ k lt (x, change). bounds.two.first.none_between k lt (omega (arith, past.0, change_within log k x change)) (x, change) },
    inl refl,
  )
  | inl lt ↦ (let t = follows log c from turn end rules bounds lt in (
    t.conf,
    record { index = turn; change = t.change; none_after = λ k over (x, change). (bounds.two.second lt).none_between k over (omega (arith, change_within log k x change)) (x, change) },
    inr t.follows,
  ))
]

ends_here : (log : List Entry) (c : RingId) (from turn end : ℕ) → KeepsRules log → Bounds log c from turn end → end ≡ length log → FailedIn log c ⊎ StaysIn log c
ends_here log c from turn end rules bounds is_end = go (get_or log (end - 1) (Fail (Regular c))) (slice_get-get_or log (end - 1) (Fail (Regular c)) (omega (arith, is_end, later)))
  where
    later : from < end
    later = omega (arith, bounds.two.first.later, until log c from turn end bounds)

    last : (d : ConfId) × LastChange log d × Com log c d
    last = last_change log c from turn end rules bounds is_end

    opens : (e : Entry) → slice_get log (end - 1) ≡ Some e → ((x : ConfId) → e ≡ Fail x → ⊥) → FailedIn log c ⊎ StaysIn log c
    opens e at other = inr (last.0, never, last.1, last.2)
      where
        never : NeverFails log
        never i x fails =
            let here : i ≡ end - 1 = omega (arith, is_end, fails_last log i x rules.placed fails) in
            let there : slice_get log (end - 1) ≡ Some (Fail x) = rw here at fails in
            other x cc

    go : (e : Entry) → slice_get log (end - 1) ≡ Some e → FailedIn log c ⊎ StaysIn log c
    go (Fail x) at =
        let apart : from ≡ end - 1 → ⊥ = λ same. names_no_change log (end - 1) x (Fail x, at, refl) (Regular c, rw same at bounds.change) in
        let after : from < end - 1 = grind (arith, later) in
        inl (end - 1, x, at, names_in log c from turn end rules bounds (end - 1) x after (omega (arith, later)) (Fail x, at, refl))
    go other at = opens other at (λ x is. cc)

-- before the end of its log a stay ends at a change, and neither a failure nor the end of the log is before that
goes_on : (log : List Entry) (c : RingId) (from turn end : ℕ) → KeepsRules log → Bounds log c from turn end → end < length log → FailedIn log c ⊎ StaysIn log c → ⊥
goes_on log c from turn end rules bounds below = go
  where
    there : turn < length log
    there = grind (arith, turn_or_end log c from turn end bounds)

    change : IsChange log end
    change = (bounds.two.second there).change below

    go : FailedIn log c ⊎ StaysIn log c → ⊥
    go (inl (i, x, fails, inside)) = rules.placed.final i end x fails (is_here log c from turn end rules bounds i x (Fail x, fails, refl) inside).1 below
    go (inr (d, never, last, inl same)) =
        let at : last.index ≡ from = rules.once last.index from (Regular c) (rw same at last.change) bounds.change in
        last.none_after end (omega (arith, bounds.two.first.later, until log c from turn end bounds)) change
    go (inr (d, never, last, inr f)) =
        let t = follows_at log c d from turn end rules bounds f in
        let at : last.index ≡ turn = rules.once last.index turn d last.change t.1 in
        last.none_after end (omega (arith, (bounds.two.second there).later)) change

-- such bounds are those of a stay
pub is_stay : (log : List Entry) (c : RingId) (from turn end : ℕ) → KeepsRules log → Bounds log c from turn end → IsStay log c from turn end
is_stay log c from turn end rules bounds = record {
  before = bounds.two.first.later;
  until = until log c from turn end bounds;
  within = grind (arith, turn_or_end log c from turn end bounds);
  change = bounds.change;
  turns = λ lt. follows log c from turn end rules bounds (has_turn log c from turn end bounds lt);
  here = is_here log c from turn end rules bounds;
  regular = regular_here log c from turn end rules bounds;
  following = following_here log c from turn end rules bounds;
  changes = is_changed log c from turn end bounds;
  next = λ lt. ((bounds.two.second lt).later, is_next log from turn bounds.two.first lt);
  last = λ lt below. is_next log turn end (bounds.two.second (has_turn log c from turn end bounds lt)) below;
  ends = ends_here log c from turn end rules bounds;
  goes_on = goes_on log c from turn end rules bounds;
}

-- ---- the next change, found entry by entry

-- no change follows up to the end of the log
pub next_is_end : (log : List Entry) (i n : ℕ) → i < length log → length log ≤ n → NoneBetween log i n → IsNextOrEnd log i (length log)
next_is_end log i n lt end before = record {
  later = lt;
  within = omega arith;
  change = λ below. absurd (omega arith);
  none_between = λ k after below h. before.none k after (omega arith) h;
}
