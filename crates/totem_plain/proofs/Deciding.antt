-- What the definitions say of logs holds, or it does not.
use Rattle.totem_plain.proofs.Common.{below_more, ◌≡◌, ℕ, zero, suc, ◌<◌, ◌⊎◌, inl, inr, List, length, slice_get, Option, Some, None, refl, ◌∙◌, ap, arith, slice_get_within, get_or_from_slice_get, slice_get-get_or, RingId, ConfId, MsgId, Entry, Conf, Fail, Log, log_of, ending_of, ChangesTo, IsChange, Fails, IsQuiet, SharesEnd, StandsIn, IsFirstChange, Com, NeverFails, FailedIn, LastChange, StaysIn, DeliversOrEnds, HasLog, less_or_not, same_conf_or_not, first_change_or_not, in_or_not, NoneBelow}
use Rattle.std.proofs.lemmas.Bool.{cases_eq}
use Rattle.totem_evs.specs.declared.ending.Ending.{Ending}
use Rattle.totem_evs.specs.declared.ending.Ending.TheVariants.{Quiet}
use Rattle.totem_evs.proofs.Originating.{last_before}
use Rattle.totem_judge_run.proofs.Decisions.{both_or_not, same_or_not}
use Rattle.totem_search.proofs.Deciding.{has_delivered_or_not}

pub either_or_not : {P Q : Type 0} → P ⊎ (P → ⊥) → Q ⊎ (Q → ⊥) → (P ⊎ Q) ⊎ (P ⊎ Q → ⊥)
either_or_not h k = grind arith

pub not_or_not : {P : Type 0} → P ⊎ (P → ⊥) → (P → ⊥) ⊎ ((P → ⊥) → ⊥)
not_or_not (inl p) = inr (λ never. never p)
not_or_not (inr never) = inl never

-- ---- lists

-- the first number with the fact, or none below n has it
first_below : (P : ℕ → Type 0) → ((i : ℕ) → P i ⊎ (P i → ⊥)) → (n : ℕ) → ((k : ℕ) × P k × NoneBelow P k) ⊎ NoneBelow P n
first_below P decide zero = inr (record { none = λ k lt h. omega arith })
first_below P decide (suc n) = elim (first_below P decide n) [
  | inl found ↦ inl found
  | inr before ↦ elim (decide n) [ inl here ↦ inl (n, here, before) | inr never ↦ inr (record { none = λ k lt. below_more (λ i. P i → ⊥) n before.none never k (omega arith) }) ]
]

-- an element has the fact, or none has
some_or_not : {X : Type 0} (Q : ℕ → X → Type 0) (xs : List X) → ((i : ℕ) (x : X) → Q i x ⊎ (Q i x → ⊥)) → ((i : ℕ) × (x : X) × (slice_get xs i ≡ Some x) × Q i x) ⊎ ((i : ℕ) (x : X) → slice_get xs i ≡ Some x → Q i x → ⊥)
some_or_not {X = X} Q xs decide = elim (first_below (λ i. (x : X) × (slice_get xs i ≡ Some x) × Q i x) (λ i. at_or_not i (slice_get xs i) refl) (length xs)) [
  | inl (i, (x, at, h), before) ↦ inl (i, x, at, h)
  | inr none ↦ inr (λ i x at h. none.none i (slice_get_within xs i x at) (x, at, h))
]
  where
    at_or_not : (i : ℕ) (o : Option X) → slice_get xs i ≡ o → ((x : X) × (slice_get xs i ≡ Some x) × Q i x) ⊎ ((x : X) × (slice_get xs i ≡ Some x) × Q i x → ⊥)
    at_or_not i None at = inr (λ (x, there, h). cc)
    at_or_not i (Some x) at = same_or_not (decide i x) (λ h. (x, at, h)) (λ (y, there, h). (let same : y ≡ x = cc in rw same at h))

has_log_or_not : (run : List Log) (p : ℕ) → HasLog run p ⊎ (HasLog run p → ⊥)
has_log_or_not run p = elim (some_or_not (λ k (l : Log). l.proc ≡ p) run (λ k l. cases_eq l.proc p)) [
  | inl (k, l, at, same) ↦ inl (k, l, slice_get_within run k l at, get_or_from_slice_get run k l l at, same)
  | inr none ↦ inr (λ (k, l, lt, is, same). none k l (slice_get-get_or run k l lt ∙ ap (λ (x : Log). Some x) is) same)
]

-- ---- changes

same_there : (log : List Entry) (i : ℕ) (x y : ConfId) → ChangesTo log i x → ChangesTo log i y → x ≡ y
same_there log i x y (ms, h) (ns, k) = cc

within : (log : List Entry) (i : ℕ) → IsChange log i → i < length log
within log i (x, (ms, at)) = slice_get_within log i (Conf x ms) at

-- the configuration that the log is in before i, or none
standing_or_none : (log : List Entry) (i : ℕ) → ((x : ConfId) × StandsIn log i x) ⊎ ((x : ConfId) → StandsIn log i x → ⊥)
standing_or_none log i = elim (last_before log i) [
  | inr none ↦ inr (λ x h. none.none h.from h.before (x, h.change))
  | inl (j, last) ↦ inl (last.change.0, record { from = j; before = last.before; change = last.change.1; none_between = last.none_between })
]

one_standing : (log : List Entry) (i : ℕ) (x y : ConfId) → StandsIn log i x → StandsIn log i y → x ≡ y
one_standing log i x y a b = elim (less_or_not a.from b.from) [
  | inl lt ↦ absurd (a.none_between b.from lt b.before (y, b.change))
  | inr (inl gt) ↦ absurd (b.none_between a.from gt a.before (x, a.change))
  | inr (inr same) ↦ (let first = rw same at a.change in same_there log b.from x y first b.change)
]

pub stands_or_not : (log : List Entry) (i : ℕ) (x : ConfId) → StandsIn log i x ⊎ (StandsIn log i x → ⊥)
stands_or_not log i x = elim (standing_or_none log i) [
  | inr none ↦ inr (none x)
  | inl (y, stands) ↦ same_or_not (same_conf_or_not y x) (λ same. rw same at stands) (λ h. one_standing log i y x stands h)
]

-- the last change is the one before the end
last_standing : (log : List Entry) (x : ConfId) → LastChange log x → StandsIn log (length log) x
last_standing log x last = record { from = last.index; before = within log last.index (x, last.change); change = last.change; none_between = λ k over under. last.none_after k over }

standing_last : (log : List Entry) (x : ConfId) → StandsIn log (length log) x → LastChange log x
standing_last log x stands = record { index = stands.from; change = stands.change; none_after = λ k over change. stands.none_between k over (within log k change) change }

-- ---- what a log has, or has not

IsFailIn : (ConfId → Type 0) → ℕ → Entry → Type 0
IsFailIn P i (Fail x) = P x
IsFailIn P i _ = ⊥

fail_or_not : (P : ConfId → Type 0) (log : List Entry) → ((x : ConfId) → P x ⊎ (P x → ⊥)) → ((i : ℕ) × (x : ConfId) × Fails log i x × P x) ⊎ ((i : ℕ) (x : ConfId) → Fails log i x → P x → ⊥)
unfolding IsFailIn
fail_or_not P log decide = elim (some_or_not (IsFailIn P) log test) [
  | inl (i, e, at, h) ↦ inl (fail_of i e at h)
  | inr none ↦ inr (λ i x at h. none i (Fail x) at h)
]
  where
    test : (i : ℕ) (e : Entry) → IsFailIn P i e ⊎ (IsFailIn P i e → ⊥)
    test i (Fail x) = decide x
    test i other = inr (λ h. h)

    fail_of : (i : ℕ) (e : Entry) → slice_get log i ≡ Some e → IsFailIn P i e → (j : ℕ) × (x : ConfId) × Fails log j x × P x
    fail_of i (Fail x) at h = (i, x, at, h)
    fail_of i other at h = absurd h

never_fails_or_not : (log : List Entry) → NeverFails log ⊎ (NeverFails log → ⊥)
never_fails_or_not log = elim (fail_or_not (λ x. Unit {0}) log (λ x. inl tt)) [
  | inl (i, x, at, h) ↦ inr (λ never. never i x at)
  | inr never ↦ inl (λ i x at. never i x at tt)
]

failed_or_not : (log : List Entry) (c : RingId) → FailedIn log c ⊎ (FailedIn log c → ⊥)
failed_or_not log c = elim (fail_or_not (λ x. Com log c x) log (in_or_not log c)) [
  | inl (i, x, at, inside) ↦ inl (i, x, at, inside)
  | inr never ↦ inr (λ (i, x, at, inside). never i x at inside)
]

stays_or_not : (log : List Entry) (c : RingId) → StaysIn log c ⊎ (StaysIn log c → ⊥)
stays_or_not log c = elim (standing_or_none log (length log)) [
  | inr none ↦ inr (λ (d, never, last, inside). none d (last_standing log d last))
  | inl (x, stands) ↦ same_or_not (both_or_not (never_fails_or_not log) (in_or_not log c x)) (λ (never, inside). (x, never, standing_last log x stands, inside))
      (λ (d, never, last, inside). (never, rw (one_standing log (length log) d x (last_standing log d last) stands) at inside))
]

quiet_or_not : (e : Ending) → (e ≡ Quiet) ⊎ (e ≡ Quiet → ⊥)
quiet_or_not e = grind arith

loud_or_not : (run : List Log) (p : ℕ) → (IsQuiet run p → ⊥) ⊎ ((IsQuiet run p → ⊥) → ⊥)
loud_or_not run p = not_or_not (quiet_or_not (ending_of run p))

pub delivers_or_ends_or_not : (run : List Log) (p : ℕ) (c : RingId) (m : MsgId) → DeliversOrEnds run p c m ⊎ (DeliversOrEnds run p c m → ⊥)
delivers_or_ends_or_not run p c m =
    let log = log_of run p in
    either_or_not (has_delivered_or_not log c m) (either_or_not (failed_or_not log c) (both_or_not (loud_or_not run p) (stays_or_not log c)))

pub shares_end_or_not : (run : List Log) (x : ConfId) (q : ℕ) → SharesEnd run x q ⊎ (SharesEnd run x q → ⊥)
shares_end_or_not run x q =
    let log = log_of run q in
    let ends = either_or_not (same_or_not (stands_or_not log (length log) x) (standing_last log x) (last_standing log x)) (both_or_not (loud_or_not run q) (never_or_not (first_change_or_not log x))) in
    same_or_not (both_or_not (has_log_or_not run q) (both_or_not (never_fails_or_not log) ends)) (λ h. record { has_log = h.0; goes_on = h.1.0; ends = h.1.1 }) (λ h. (h.has_log, (h.goes_on, h.ends)))
  where
    never_or_not : ((i : ℕ) × IsFirstChange (log_of run q) x i) ⊎ ((i : ℕ) → ChangesTo (log_of run q) i x → ⊥)
        → ((i : ℕ) → ChangesTo (log_of run q) i x → ⊥) ⊎ (((i : ℕ) → ChangesTo (log_of run q) i x → ⊥) → ⊥)
    never_or_not (inl (i, first)) = inr (λ never. never i first.change)
    never_or_not (inr never) = inl never
