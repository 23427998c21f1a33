-- The log of a process: its entries, its ending, and what some log has.
use Rattle.totem_plain.proofs.Common.{◌≡◌, ℕ, suc, ◌<◌, ◌≤◌, List, [], ◌∷◌, length, slice_get, Some, true, false, Bool, IsTrue, ◌↔◌, refl, sym, ◌∙◌, ap, arith, rules, ◌==◌, slice_index_or, slice_get_within, get_or_from_slice_get, slice_get-get_or, ConfId, MsgId, Safe, Entry, Conf, Send, Log, log_of, ending_of, IsQuiet, IsSafe, HasLog, Rising, log_of_cases, log_of_at, SomeLog, IsLogOf, HasNoLog, IsEntrySafe, IsEntryMember, SomeMember, NoneBelow, HasLogAt, no_is}
use Rattle.totem_evs.specs.declared.ending.Ending.{Ending}
use Rattle.totem_evs.specs.declared.ending.Ending.TheVariants.{Standing, Quiet}
use Rattle.totem_judge_run.proofs.LogEnds.{ending_of_at}

pub no_log : (run : List Log) (p n : ℕ) → length run ≤ n → NoneBelow (HasLogAt (λ q es. q ≡ p) run) n → HasNoLog run p
no_log run p n end before = record { none = λ (k, l, lt, is, same). before.none k (omega arith) (record { log = l; at = there k l lt is; holds = same }) }
  where
    there : (k : ℕ) (l : Log) → k < length run → slice_index_or run k l ≡ l → slice_get run k ≡ Some l
    there k l lt is = slice_get-get_or run k l lt ∙ ap (λ (x : Log). Some x) is

-- the log of a process without one is empty, and open
pub no_entries : (run : List Log) (p : ℕ) → HasNoLog run p → log_of run p ≡ []
no_entries run p lacks = grind (arith, log_of_cases, slice_get_within, get_or_from_slice_get)

ends_open : (logs : List Log) (p : ℕ) → (HasLog logs p → ⊥) → ending_of logs p ≡ Standing
ends_open [] p lacks = refl
ends_open (l ∷ ls) p lacks = go (l.proc == p) refl (ends_open ls p (λ (k, x, lt, is, same). lacks (suc k, x, omega arith, is, same)))
  where
    go : (b : Bool) → (l.proc == p) ≡ b → ending_of ls p ≡ Standing → ending_of (l ∷ ls) p ≡ Standing
    go true e rest = absurd (lacks (0, l, omega arith, refl, search rules))
    go false e rest = rw e rest

pub no_ending : (run : List Log) (p : ℕ) → HasNoLog run p → IsTrue false ↔ IsQuiet run p
no_ending run p lacks = no_is (λ quiet. let e : ending_of run p ≡ Standing = ends_open run p (λ has. lacks.none has) in cc)

pub quiet_told : (e f : Ending) (b : Bool) → f ≡ e → IsTrue b ↔ (e ≡ Quiet) → IsTrue b ↔ (f ≡ Quiet)
quiet_told e f b same tells = (λ t. same ∙ tells.0 t, λ h. tells.1 (sym same ∙ h))

pub is_log : (run : List Log) (p k : ℕ) (log : Log) → Rising run → slice_get run k ≡ Some log → log.proc ≡ p → IsLogOf run p log
is_log run p k log rising at same = record {
  has = (k, log, slice_get_within run k log at, get_or_from_slice_get run k log log at, same);
  entries = rw (← same) (log_of_at run k log rising at);
  ending = rw (← same) (ending_of_at run k log rising at);
}

-- ---- what some log has

safe_of : (run : List Log) (m : MsgId) (q i : ℕ) (x : Entry) → slice_get (log_of run q) i ≡ Some x → IsEntrySafe m x → IsSafe run m
safe_of run m q i (Send n x Safe) at same = (q, i, x, rw same at at)
safe_of run m q i x at h = absurd h

pub sent_safe : (run : List Log) (m : MsgId) (b : Bool) → IsTrue b ↔ SomeLog (IsEntrySafe m) run → IsTrue b ↔ IsSafe run m
sent_safe run m b tells = (λ t. let (q, (i, x, at, h)) = tells.0 t in safe_of run m q i x at h, λ (q, i, x, at). tells.1 (q, (i, Send m x Safe, at, refl)))

member_of : (run : List Log) (x : ConfId) (Bad : ℕ → Type 0) (p i : ℕ) (e : Entry) → slice_get (log_of run p) i ≡ Some e → IsEntryMember x Bad e → SomeMember Bad run x
member_of run x Bad p i (Conf y ms) at (same, (q, member, bad)) = (q, (p, i, ms, rw same at at, member), bad)
member_of run x Bad p i e at h = absurd h

pub some_member : (run : List Log) (x : ConfId) (Bad : ℕ → Type 0) (b : Bool) → IsTrue b ↔ SomeLog (IsEntryMember x Bad) run → IsTrue b ↔ SomeMember Bad run x
some_member run x Bad b tells = (λ t. let (p, (i, e, at, h)) = tells.0 t in member_of run x Bad p i e at h, λ (q, (p, i, ms, at, member), bad). tells.1 (p, (i, Conf x ms, at, (refl, (q, member, bad)))))
