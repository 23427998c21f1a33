-- Where one log ends.
use Rattle.totem_evs.proofs.NextChanges.{no_change}
use Rattle.totem_judge_run.proofs.Common.{Fails, ◌≡◌, ◌↔◌, ◌-◌, ◌+◌, ◌<◌, ◌≤◌, ℕ, zero, suc, inl, inr, List, [], ◌∷◌, length, slice_get, Option, Some, Bool, true, false, IsTrue, refl, ap, arith, rules, ◌==◌, slice_get_within, ConfId, Entry, Conf, Fail, Log, IsClosedBy, StaysInPlace, ChangesTo, IsChange, ending_of, LastChange, NeverFails, Rising, Rising-tail, in_order, less_or_not, IsChangeTo, NeverChangesTo, HasNoChange, StandsLast, IsLast}
use Rattle.totem_evs.specs.declared.ending.Ending.{Ending}
use Rattle.totem_evs.specs.declared.ending.Ending.TheVariants.{Failed, Quiet}
use Rattle.totem_judge_run.proofs.Decisions.{neither_below}

-- ---- how the log of a process ends

pub ending_of_at : (run : List Log) (k : ℕ) (log : Log) → Rising run → slice_get run k ≡ Some log → ending_of run log.proc ≡ log.ending
ending_of_at [] k log rising at = absurd cc
ending_of_at (x ∷ xs) zero log rising at =
    let same : x ≡ log = cc in
    let test : (x.proc == log.proc) ≡ true = rw same (search rules) in
    rw test (ap (λ (l : Log). l.ending) same)
ending_of_at (x ∷ xs) (suc k) log rising at =
    let lt : x.proc < log.proc = in_order (x ∷ xs) 0 (suc k) x log rising refl at (omega arith) in
    let test : (x.proc == log.proc) ≡ false = search rules in
    rw test (ending_of_at xs k log (Rising-tail x xs rising) at)

-- ---- where a log's last change is

-- no change is at n or later
pub record NoneFrom (log : List Entry) (n : ℕ) : Type 0 where
  pub none : (k : ℕ) → n ≤ k → IsChange log k → ⊥

pub none_more : (log : List Entry) (back : ℕ) (e : Entry) → back < length log → slice_get log (length log - 1 - back) ≡ Some e → ((x : ConfId) (ms : List ℕ) → e ≡ Conf x ms → ⊥) → NoneFrom log (length log - back)
    → NoneFrom log (length log - (back + 1))
none_more log back e lt at not_conf before = record {
  none = λ k le change. elim (less_or_not k (length log - back)) [
    | inl under ↦ (let same : k ≡ length log - 1 - back = omega arith in no_change log (length log - 1 - back) e at not_conf (rw same at change))
    | inr rest ↦ before.none k (elim rest [ inl over ↦ omega arith | inr same ↦ omega arith ]) change
  ];
}

pub stands_here : (log : List Entry) (back : ℕ) (e : Entry) (x : ConfId) (ms : List ℕ) → back < length log → slice_get log (length log - 1 - back) ≡ Some e → e ≡ Conf x ms → NoneFrom log (length log - back)
    → StandsLast log (length log - 1 - back)
stands_here log back e x ms lt at is before = record { change = (x, (ms, rw is at at)); none_after = λ k above change. before.none k (omega arith) change }

pub changes_nowhere : (log : List Entry) (back : ℕ) → length log ≤ back → NoneFrom log (length log - back) → HasNoChange log
changes_nowhere log back end before = record { none = λ k change. before.none k (omega arith) change }

pub last_stands : (log : List Entry) (last : Option ℕ) (i : ℕ) → last ≡ Some i → IsLast log last → StandsLast log i
last_stands log last i is end = rw is at end

pub last_within : (log : List Entry) (i : ℕ) → StandsLast log i → i < length log
last_within log i stands = slice_get_within log i _ stands.change.1.1

pub last_is_change : (log : List Entry) (i : ℕ) (e : Entry) → StandsLast log i → slice_get log i ≡ Some e → ((x : ConfId) (ms : List ℕ) → e ≡ Conf x ms → ⊥) → ⊥
last_is_change log i e stands at not_conf = no_change log i e at not_conf stands.change

pub never_last : (log : List Entry) (last : Option ℕ) → IsLast log last → ((i : ℕ) → last ≡ Some i → ⊥) → HasNoChange log
never_last log last end not = grind arith

-- ---- whether a log changes to a configuration

pub change_is : (e : Entry) (x : ConfId) → IsChangeTo e x → (ms : List ℕ) × (e ≡ Conf x ms)
change_is e x h = grind arith

is_change : (e : Entry) (x : ConfId) (ms : List ℕ) → e ≡ Conf x ms → IsChangeTo e x
is_change e x ms is = rw is refl

pub not_to : (log : List Entry) (n : ℕ) (e : Entry) (x : ConfId) → slice_get log n ≡ Some e → (IsChangeTo e x → ⊥) → ChangesTo log n x → ⊥
not_to log n e x at not (ms, at_n) = not (is_change e x ms cc)

pub changes_here : (log : List Entry) (x : ConfId) (n : ℕ) (e : Entry) → slice_get log n ≡ Some e → IsChangeTo e x → NeverChangesTo log x → ⊥
changes_here log x n e at is never = let h = change_is e x is in never.none n (h.0, rw h.1 at at)

pub never_changes : (log : List Entry) (x : ConfId) (n : ℕ) → length log ≤ n → ((k : ℕ) → k < n → ChangesTo log k x → ⊥) → NeverChangesTo log x
never_changes log x n end before = record { none = λ i (ms, at). before i (omega (arith, slice_get_within log i (Conf x ms) at)) (ms, at) }

-- ---- whether a log's last change is to a configuration

pub ends_decided : (log : List Entry) (i : ℕ) (e : Entry) (x : ConfId) (b : Bool) → StandsLast log i → slice_get log i ≡ Some e → IsTrue b ↔ IsChangeTo e x → IsTrue b ↔ LastChange log x
ends_decided log i e x b stands at decides = (λ t. ends (change_is e x (decides.0 t)), λ h. decides.1 (change_of h))
  where
    ends : ((ms : List ℕ) × (e ≡ Conf x ms)) → LastChange log x
    ends (ms, is) = record { index = i; change = (ms, rw is at at); none_after = stands.none_after }

    at_one : (j : ℕ) → i ≡ j → ChangesTo log j x → IsChangeTo e x
    at_one j same (ms, at_j) = let there : slice_get log j ≡ Some e = rw same at at in is_change e x ms cc

    change_of : LastChange log x → IsChangeTo e x
    change_of h = at_one h.index (neither_below i h.index (λ under. stands.none_after h.index under (x, h.change)) (λ over. h.none_after i over stands.change)) h.change

pub ends_nowhere : (log : List Entry) (x : ConfId) → HasNoChange log → IsTrue false ↔ LastChange log x
ends_nowhere log x nowhere = (λ t. absurd cc, λ h. absurd (nowhere.none h.index (x, h.change)))

-- a failure is the last entry
pub fails_last : (log : List Entry) (i : ℕ) (x : ConfId) → StaysInPlace log → Fails log i x → length log ≡ i + 1
fails_last log i x stays fails =
    let never : i + 1 < length log → ⊥ = λ lt. stays.final i (i + 1) x fails (omega arith) lt in
    let within = slice_get_within log i (Fail x) fails in
    grind arith

-- so a quiet log has none
pub quiet_never_fails : (entries : List Entry) (ending : Ending) → StaysInPlace entries → IsClosedBy entries ending → ending ≡ Quiet → NeverFails entries
quiet_never_fails entries ending placed closed quiet i x fails =
    (let failed : ending ≡ Failed = closed.1 (i, Fail x, fails_last entries i x placed fails, fails, tt) in cc)
