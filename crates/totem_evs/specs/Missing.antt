-- Members without a log (docs/SPECIFICATIONS.md, "Run text").
use Rattle.std.specs.Prelude.{◌≡◌, ℕ, ◌≤◌, List, [], Any, Contains}
use Rattle.std.specs.List.{flat_map}
use Rattle.totem_evs.specs.declared.entry.Entry.{Entry}
use Rattle.totem_evs.specs.declared.entry.Entry.TheVariants.{Conf, Send, Deliver, Fail}
use Rattle.totem_evs.specs.declared.log.Log.{Log}

-- the members that an entry names
abbrev pub members_of : Entry → List ℕ
members_of (Conf x members) = members
members_of (Send m x service) = []
members_of (Deliver m x) = []
members_of (Fail x) = []

-- the members of all configurations
abbrev pub all_members : List Log → List ℕ
all_members run = flat_map (λ log. flat_map members_of log.entries) run

-- p has a log
abbrev pub HasLog : List Log → ℕ → Type 0
HasLog run p = Any (λ log. log.proc ≡ p) run

-- each member of each configuration has a log
abbrev pub EachHasLog : List Log → List ℕ → Type 0
EachHasLog run procs = (q : ℕ) → Contains procs q → HasLog run q

-- p is the least of these processes without a log
pub record IsLeastMissing (run : List Log) (procs : List ℕ) (p : ℕ) : Type 0 where
  pub named : Contains procs p
  pub missing : HasLog run p → ⊥
  pub least : (q : ℕ) → Contains procs q → (HasLog run q → ⊥) → p ≤ q
