-- In which configuration a log ends: that of its last change.
use Rattle.totem_judge_run.proofs.LogEnds.{fails_last}
use Rattle.totem_judge_run.proofs.Common.{◌≡◌, ◌↔◌, ◌-◌, ◌+◌, ◌<◌, ℕ, List, [], ◌∷◌, ◌++◌, length, slice_get, Option, None, Some, Bool, false, IsTrue, arith, ConfId, Entry, Fail, Log, StaysInPlace, LastChange, EndsIn, Along, along_more, GoesOn, IsLast, StandsAtEnd, EndsNowhere, IsEnd}

-- a log that fails has the failure at its end
pub goes_on : (log : List Entry) (e : Entry) → StaysInPlace log → 0 < length log → slice_get log (length log - 1) ≡ Some e → ((x : ConfId) → e ≡ Fail x → ⊥) → GoesOn log
goes_on log e stays some at not_fail = record {
  never = λ i x fails.
      let last : i ≡ length log - 1 = omega (arith, fails_last log i x stays fails) in
      let here : slice_get log (length log - 1) ≡ Some (Fail x) = rw last at fails in
      not_fail x cc;
}

-- a log without a failure ends where its last change is
pub is_end : (log : List Entry) (last : Option ℕ) → GoesOn log → IsLast log last → IsEnd log last
is_end log None on none = record { never = λ x ends. none.none ends.last.index (x, ends.last.change) }
is_end log (Some i) on stands = record { goes_on = on.never; change = stands.change; last = stands.none_after }

-- ---- whether a log ends in a configuration

pub end_stands : (log : List Entry) (last : Option ℕ) (i : ℕ) → last ≡ Some i → IsEnd log last → StandsAtEnd log i
end_stands log last i is end = rw is at end

pub stands_last : (log : List Entry) (last : Option ℕ) (i : ℕ) → last ≡ Some i → IsEnd log last → IsLast log last
stands_last log last i is end = let stands = end_stands log last i is end in rw is (record { change = stands.change; none_after = stands.last })

pub ends_decided : (log : List Entry) (i : ℕ) (x : ConfId) (b : Bool) → StandsAtEnd log i → IsTrue b ↔ LastChange log x → IsTrue b ↔ EndsIn log x
ends_decided log i x b stands decides = (λ t. record { goes_on = stands.goes_on; last = decides.0 t }, λ h. decides.1 h.last)

pub ends_not : (log : List Entry) (x : ConfId) → EndsNowhere log → IsTrue false ↔ EndsIn log x
ends_not log x nowhere = (λ t. absurd cc, λ h. absurd (nowhere.never x h))

-- ---- the ends of all logs

pub end_nowhere : (log : List Entry) (last : Option ℕ) → last ≡ None → IsEnd log last → EndsNowhere log
end_nowhere log last is end = rw is at end

pub end_nowhere_but : (log : List Entry) (last : Option ℕ) → IsEnd log last → ((i : ℕ) → last ≡ Some i → ⊥) → EndsNowhere log
end_nowhere_but log last end not = grind arith

-- those for the first n logs
abbrev pub EndsBefore : List Log → ℕ → List (Option ℕ) → Type 0
EndsBefore run n ends = Along (λ (l : Log) (last : Option ℕ). IsEnd l.entries last) run ends n

pub ends_more : (run : List Log) (n : ℕ) (log : Log) (last : Option ℕ) (ends : List (Option ℕ)) → slice_get run n ≡ Some log → IsEnd log.entries last → EndsBefore run n ends → EndsBefore run (n + 1) (ends ++ last ∷ [])
ends_more run n log last ends at end before = along_more (λ (l : Log) (e : Option ℕ). IsEnd l.entries e) run ends n log last at end before
