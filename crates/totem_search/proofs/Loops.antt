-- Loops that look for what has a property, index by index.
use Rattle.totem_judge_run.proofs.Common.{◌≡◌, ℕ, ◌+◌, ◌<◌, ◌≤◌, inl, inr, List, [], length, slice_get, Bool, Some, true, false, IsTrue, ◌↔◌, refl, arith, below_more, slice_get_within, Entry, Log, log_of, Rising, log_of_cases, log_of_at}

pub yes_is : {X : Type 0} → X → IsTrue true ↔ X
yes_is x = (λ t. x, λ h. refl)

pub no_is : {X : Type 0} → (X → ⊥) → IsTrue false ↔ X
no_is never = (λ t. absurd cc, λ h. absurd (never h))

-- nothing below n has the property
pub record NoneBelow (P : ℕ → Type 0) (n : ℕ) : Type 0 where
  pub none : (k : ℕ) → k < n → P k → ⊥

pub none_more : (P : ℕ → Type 0) (n : ℕ) → (P n → ⊥) → NoneBelow P n → NoneBelow P (n + 1)
none_more P n here before = record { none = below_more (λ k. P k → ⊥) n before.none here }

pub none_yet : (P : ℕ → Type 0) (n : ℕ) → NoneBelow P n → (m : ℕ) → m ≤ n → ((k : ℕ) → P k → k < m) → (k : ℕ) → P k → ⊥
none_yet P n before m end within k h = (let lt = within k h in before.none k (omega arith) h)

-- a test that said no
pub denied : {P : Type 0} (b : Bool) → b ≡ false → IsTrue b ↔ P → P → ⊥
denied b no_ tells h = let t = tells.1 h in cc

-- a log with the property is at some index of the run
pub record HasLogAt (Q : ℕ → List Entry → Type 0) (run : List Log) (k : ℕ) : Type 0 where
  pub log : Log
  pub at : slice_get run k ≡ Some log
  pub holds : Q log.proc log.entries

pub none_at : (Q : ℕ → List Entry → Type 0) (run : List Log) (n : ℕ) (l : Log) → slice_get run n ≡ Some l → (Q l.proc l.entries → ⊥) → HasLogAt Q run n → ⊥
none_at Q run n l at never h = let same : h.log ≡ l = (let x = h.at in cc) in never (rw same at h.holds)

pub none_of_run : (Q : ℕ → List Entry → Type 0) (run : List Log) (n : ℕ) → length run ≤ n → ((p : ℕ) → Q p [] → ⊥) → NoneBelow (HasLogAt Q run) n → (p : ℕ) → Q p (log_of run p) → ⊥
none_of_run Q run n end empty before p h = elim (log_of_cases run p) [
  | inl none ↦ empty p (rw none at h)
  | inr (k, l, at, procs, entries) ↦ before.none k (omega (arith, slice_get_within run k l at)) (record { log = l; at = at; holds = rw (entries, ← procs) at h })
]

pub at_log : (Q : ℕ → List Entry → Type 0) (run : List Log) (k : ℕ) (l : Log) → Rising run → slice_get run k ≡ Some l → Q l.proc l.entries → (p : ℕ) × Q p (log_of run p)
at_log Q run k l rising at h = (l.proc, rw (log_of_at run k l rising at) h)
