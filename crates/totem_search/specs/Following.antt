-- The changes of one log, where there are none (docs/SPECIFICATIONS.md, "Following").
use Rattle.std.specs.Prelude.{ℕ, ◌<◌, List}
use Rattle.totem_names.specs.declared.conf.ConfId.{ConfId}
use Rattle.totem_evs.specs.declared.entry.Entry.{Entry}
use Rattle.totem_evs.specs.Events.{ChangesTo, IsChange}

-- the entry at i, if there is one, is no change
pub record NoChangeAt (log : List Entry) (i : ℕ) : Type 0 where
  pub none : IsChange log i → ⊥

-- no change is after i
pub record NoNextChange (log : List Entry) (i : ℕ) : Type 0 where
  pub none : (k : ℕ) → i < k → IsChange log k → ⊥

-- the log never changes to x
pub record NeverChangesTo (log : List Entry) (x : ConfId) : Type 0 where
  pub never : (i : ℕ) → ChangesTo log i x → ⊥
