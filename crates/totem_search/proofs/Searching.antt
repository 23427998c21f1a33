-- Searching a run, event by event.
use Rattle.totem_judge_run.proofs.Common.{below_more, ◌≡◌, ℕ, ◌+◌, ◌<◌, ◌≤◌, List, [], ◌∷◌, length, slice_get, Some, refl, arith, Option, None, Result, Ok, Err, IfOk, MatchOption, Bool, IsTrue, ◌↔◌, common_steps, slice_get_within, Place, Entry, Log, RingId, log_of, Rising, log_of_cases, in_order, less_or_not}
use Rattle.totem_evs.proofs.Common.{Breaks, BreaksIn, MeetsIn}
use Rattle.std.specs.Bool.{then_some}
use Rattle.totem_evs.specs.declared.spec.SpecNo.{SpecNo}
use Rattle.totem_evs.specs.Answers.{IsLeast, Meets, Finds, FindsIn}
use Rattle.totem_search.specs.Search.{place, NoneFrom, IsLeastFrom, NoneInLog, IsLeastInLog, Begins, EachBegins, HoldsOfNone, IsOneEvent, AreEvents}

pub none_in_log_more : (H : List Place → Type 0) (p i : ℕ) → NoneFrom H p i → NoneInLog H p i → NoneInLog H p (i + 1)
none_in_log_more H p i here before = record { none = λ k rest lt. below_more (λ k. H (place p k ∷ rest) → ⊥) i (λ k under. before.none k rest under) (here.none rest) k lt }

-- it holds for no list that begins in a log before the one at k
pub record NoneBeforeLog (run : List Log) (H : List Place → Type 0) (k : ℕ) : Type 0 where
  pub none : (j i : ℕ) (log : Log) (rest : List Place) → j < k → slice_get run j ≡ Some log → i < length log.entries → H (place log.proc i ∷ rest) → ⊥

pub none_before_more : (run : List Log) (H : List Place → Type 0) (k : ℕ) (log : Log) → slice_get run k ≡ Some log → NoneInLog H log.proc (length log.entries) → NoneBeforeLog run H k → NoneBeforeLog run H (k + 1)
none_before_more run H k log at here before = grind (arith, common_steps)

pub none_at_end : (run : List Log) (H : List Place → Type 0) (k : ℕ) → EachBegins run H → length run ≤ k → NoneBeforeLog run H k → HoldsOfNone H
none_at_end run H k begins end before = grind (arith, log_of_cases, slice_get_within)

pub least_here : (run : List Log) (H : List Place → Type 0) (k : ℕ) (log : Log) (places : List Place) → EachBegins run H → Rising run → slice_get run k ≡ Some log → IsLeastInLog H log.proc (length log.entries) places
    → NoneBeforeLog run H k → IsLeast H places
least_here run H k log places begins rising at here before = grind (arith, log_of_cases, less_or_not, in_order)

pub begins_at : (run : List Log) (e : Place) (i : ℕ) (rest : List Place) → e.at ≡ i + 1 → i < length (log_of run e.proc) → Begins run (e ∷ rest)
begins_at run e i rest is lt = record { proc = e.proc; index = i; rest = rest; within = lt; is = rw (← is) refl }

-- ---- lists of one event

pub event_begins : (run : List Log) (Bad : ℕ → ℕ → Type 0) → AreEvents run Bad → EachBegins run (IsOneEvent Bad)
event_begins run Bad are = grind (arith, begins_at)

pub event_at : (Bad : ℕ → ℕ → Type 0) (p i : ℕ) (rest : List Place) → IsOneEvent Bad (place p i ∷ rest) → Bad p i
event_at Bad p i rest h = grind arith

-- a test of the event says whether a list begins there
pub event_told : {V : Type 0} (items : V → List Place) (Bad : ℕ → ℕ → Type 0) (p i : ℕ) (b : Bool) (v : V) → items v ≡ [] → IsTrue b ↔ Bad p i
    → MatchOption (then_some b v) (NoneFrom (IsOneEvent Bad) p i) (λ v. IsLeastFrom (IsOneEvent Bad) p i (items v))
event_told items Bad p i b v empty tells = grind (arith, event_at)

-- no event has the property
pub nowhere : (Bad : ℕ → ℕ → Type 0) → HoldsOfNone (IsOneEvent Bad) → (p i : ℕ) → Bad p i → ⊥
nowhere Bad none p i h = none.none (place p i ∷ []) (i, refl, h)

-- a test of the entry at i says what is known about i
pub told_at : (log : List Entry) (i : ℕ) (x : Entry) (P : Entry → Type 0) (Bad : Type 0) (b : Bool) → slice_get log i ≡ Some x → (P x → Bad) → (Bad → (y : Entry) × (slice_get log i ≡ Some y) × P y) → IsTrue b ↔ P x → IsTrue b ↔ Bad
told_at log i x P Bad b at to from tells = (λ t. to (tells.0 t), λ bad. (let h = from bad in tells.1 (let one : h.0 ≡ x = (let there = h.1 in cc) in rw one at h.2)))

-- ---- how lists go on

-- a list that begins at the entry is in the one relation exactly if its rest is in the other
pub record Starts (A B : List Place → Type 0) (p i : ℕ) : Type 0 where
  pub to : (rest : List Place) → A rest → B (place p i ∷ rest)
  pub from : (rest : List Place) → B (place p i ∷ rest) → A rest

pub started : {V F : Type 0} (items : V → List Place) (r : Result (Option V) F) (A B : List Place → Type 0) (p i : ℕ) → Starts A B p i → IfOk r (λ found. MatchOption found (HoldsOfNone A) (λ v. IsLeast A (items v)))
    → IfOk r (λ found. MatchOption found (NoneFrom B p i) (λ v. IsLeastFrom B p i (items v)))
started items r A B p i starts h = grind arith

-- what the result of a search says about a specification
pub finds : {F : Type 0} (run : List Log) (r : Result (Option (List Place)) F) (H : List Place → Type 0) (k : SpecNo) → (HoldsOfNone H → Meets run k) → ((ps : List Place) → H ps → Breaks run k ps) → ((ps : List Place) → Breaks run k ps → H ps)
    → IfOk r (λ found. MatchOption found (HoldsOfNone H) (IsLeast H)) → IfOk r (Finds run k)
finds run r H k meets to from h = grind arith

pub finds_in : {F : Type 0} (run : List Log) (c : RingId) (r : Result (Option (List Place)) F) (H : List Place → Type 0) (k : SpecNo) → (HoldsOfNone H → MeetsIn run c k) → ((ps : List Place) → H ps → BreaksIn run c k ps)
    → ((ps : List Place) → BreaksIn run c k ps → H ps) → IfOk r (λ found. MatchOption found (HoldsOfNone H) (IsLeast H)) → IfOk r (FindsIn run c k)
finds_in run c (Err e) H k meets to from h = tt
finds_in run c (Ok None) H k meets to from h = meets h
finds_in run c (Ok (Some ps)) H k meets to from h = record { holds = to ps h.holds; first = λ others b. h.first others (from others b) }

-- the result of a search in another form
pub reworded : {X F : Type 0} (r : Result (Option X) F) (A B : Type 0) (P Q : X → Type 0) → (A → B) → ((x : X) → P x → Q x) → IfOk r (λ found. MatchOption found A P) → IfOk r (λ found. MatchOption found B Q)
reworded r A B P Q f g h = grind (arith, common_steps)
