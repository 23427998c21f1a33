-- Entering the changes of a run, one after the other.
use Rattle.totem_judge_run.proofs.Common.{below_more, ◌≡◌, ℕ, ◌+◌, ◌<◌, ◌≤◌, List, length, slice_get, Option, Some, Result, IfOk, Bool, refl, sym, ap, ◌∙◌, arith, Contains, OnTrue, slice_get_within, RingId, ConfId, Regular, Transitional, Entry, Conf, Log, ChangesWith, log_of, ChangesNext, TakesTurns, HasOneOrigin, log_of_cases, ChangesAgree, IsLastBefore, ComesFrom, IsMet, Keeps, Meets, IsRight, Enters, AreRight, EntersLog}
use Rattle.totem_judge_run.specs.declared.changes_2_3.FirstChange.{FirstChange}
use Rattle.totem_judge_run.specs.declared.first_changes.FirstChanges.{FirstChanges}
use Rattle.totem_judge_run.specs.Indexed.{EachOnce}
use Rattle.totem_judge_run.specs.Succession.{IsWrongSuccession}
use Rattle.totem_judge_run.proofs.Behind.{same_entry, regular_first, turns_right, one_origin, right_kinds, right_from, right_to, right_name}

-- ---- one change

-- if the result is `true`, what follows from P holds
pub where_met : {E : Type 0} (r : Result Bool E) (P Q : Type 0) → (P → Q) → IfOk r (λ ok. OnTrue ok P) → IfOk r (λ ok. OnTrue ok Q)
where_met r P Q h k = grind arith

pub entered : (old new : FirstChanges) (at : ℕ) (before : Option ℕ) (log : Log) (e : Entry) (x : ConfId) (ms : List ℕ) (c : RingId) → slice_get log.entries at ≡ Some e → e ≡ Conf x ms → Contains ms log.proc → IsLastBefore log.entries at before
    → ComesFrom log.entries before x ms c → Meets old new x ms c → Enters old new log at
entered old new at before log e x ms c at_entry is own last from meets = record {
  right = λ y ns there. (let same = same_entry log.entries at at y x ns ms refl (rw is at at_entry) there in rw (← same.0, ← same.1) right);
  kept = meets.kept;
}
  where
    right : IsRight new log at x ms
    right = record {
      own = own;
      regular = regular_first log.entries at before x ms c last from;
      turns = λ i w ls next. turns_right log.entries at i before w x ls ms c last from next;
      from = c;
      met = meets.met;
      origin = λ i d ls trans next. one_origin log.entries at i before d x ls ms c trans last from next;
    }

-- ---- along the logs

still_right : (old new : FirstChanges) (log : Log) (at : ℕ) (x : ConfId) (ms : List ℕ) → Keeps old new → IsRight old log at x ms → IsRight new log at x ms
still_right old new log at x ms kept h = grind arith

pub more_right : (old new : FirstChanges) (log : Log) (j : ℕ) → Enters old new log j → AreRight old log j → AreRight new log (j + 1)
more_right old new log j enters before = record {
  each = below_more (λ i. (x : ConfId) (ms : List ℕ) → ChangesWith log.entries i x ms → IsRight new log i x ms) j (λ i lt x ms at. still_right old new log i x ms enters.kept (before.each i lt x ms at)) enters.right;
}

-- the changes of the first k logs meet the requirements
pub record LogsAreRight (run : List Log) (firsts : FirstChanges) (k : ℕ) : Type 0 where
  pub each : (i : ℕ) → i < k → (log : Log) → slice_get run i ≡ Some log → AreRight firsts log (length log.entries)

pub more_logs : (run : List Log) (old new : FirstChanges) (k : ℕ) (log : Log) → slice_get run k ≡ Some log → EntersLog old new log → LogsAreRight run old k → LogsAreRight run new (k + 1)
more_logs run old new k log at_log enters before = record {
  each = below_more (λ i. (l : Log) → slice_get run i ≡ Some l → AreRight new l (length l.entries)) k
      (λ i lt l at. record { each = λ j below x ms h. still_right old new l j x ms enters.kept ((before.each i lt l at).each j below x ms h) })
      (λ l at. (let same : log ≡ l = cc in rw (← same) enters.right));
}

-- ---- all logs

module _ (run : List Log) (firsts : FirstChanges) (k : ℕ) (end : length run ≤ k) (so : LogsAreRight run firsts k) (once : EachOnce firsts.list.items) where
  -- what is known of a change of p's log
  record RightIn (p i : ℕ) (x : ConfId) (ms : List ℕ) : Type 0 where
    log : Log
    proc : log.proc ≡ p
    entries : log_of run p ≡ log.entries
    right : IsRight firsts log i x ms

  right_in : (p i : ℕ) (x : ConfId) (ms : List ℕ) → ChangesWith (log_of run p) i x ms → RightIn p i x ms
  right_in p i x ms at = grind (arith, log_of_cases, slice_get_within)

  not_wrong : (p i j : ℕ) (x y : ConfId) (ms ns : List ℕ) → ChangesNext (log_of run p) i j x y ms ns → IsWrongSuccession x ms y ns → ⊥
  not_wrong p i j x y ms ns next = (let h = right_in p j y ns next.second in h.right.turns i x ms (rw h.entries at next))

  one_met : (x : ConfId) (ms ns : List ℕ) (c d : RingId) → IsMet firsts x ms c → IsMet firsts x ns d → (ms ≡ ns) × (c ≡ d)
  one_met x ms ns c d h g =
      let one : h.at ≡ g.at = once.one h.at g.at h.change g.change h.is g.is (h.conf ∙ sym g.conf) in
      let same : h.change ≡ g.change = (let at : slice_get firsts.list.items h.at ≡ Some g.change = rw one g.is in cc) in
      (sym h.members ∙ ap (λ (f : FirstChange). f.members.now) same ∙ g.members, sym h.from ∙ ap (λ (f : FirstChange). f.from.now) same ∙ g.from)

  all_one : (p i q j : ℕ) (x : ConfId) (ms ns : List ℕ) → ChangesWith (log_of run p) i x ms → ChangesWith (log_of run q) j x ns → ms ≡ ns
  all_one p i q j x ms ns a b =
      let h = right_in p i x ms a in
      let g = right_in q j x ns b in
      (one_met x ms ns h.right.from g.right.from h.right.met g.right.met).0

  takes_turns : (p : ℕ) → TakesTurns (log_of run p)
  takes_turns p = record {
    regular_first = λ i x (ms, at) none. (let h = right_in p i x ms at in h.right.regular (record { none = rw h.entries at none }));
    turns = λ i j x y ms ns next. right_kinds x y ms ns (not_wrong p i j x y ms ns next);
    from = λ i j c y ms ns trans next. right_from c y ms ns trans (not_wrong p i j (Regular c) y ms ns next);
    to = λ i j x c ms ns trans next. right_to x c ms ns trans (not_wrong p i j x (Regular c) ms ns next);
    named = λ i j next c least ms ns changes. right_name next c least ms ns (not_wrong p i j (Transitional least next) (Regular c) ms ns changes);
  }

  one_ring : HasOneOrigin run
  one_ring p i j q m l c d t ms ns ks ls lt trans a b =
      let h = right_in p j t ns a.second in
      let g = right_in q l t ls b.second in
      sym (h.right.origin i c ms trans (rw h.entries at a)) ∙ (one_met t ns ls h.right.from g.right.from h.right.met g.right.met).1 ∙ g.right.origin m d ks trans (rw g.entries at b)

  pub all_agree : ChangesAgree run
  all_agree = record {
    members = all_one;
    own = λ p i x ms at. (let h = right_in p i x ms at in rw (← h.proc) h.right.own);
    turns = record { each = takes_turns; origin = one_ring };
  }
