-- Laws of returns (docs/PROTOCOL.md, "Scripts").
use Rattle.std.specs.Prelude.{◌≡◌, ◌↔◌, ℕ, ◌+◌, ◌<◌, ◌≤◌, List, [], ◌∷◌, ◌++◌, true, Err}
use Rattle.std.specs.Result.{IsOk}
use Rattle.totem_names.specs.Ranks.{id_of, life_of}
use Rattle.totem_core.specs.Nodes.{new_node}
use Rattle.totem_core.specs.Replay.{first_change}
use Rattle.totem_script.specs.declared.script_fault.ScriptFault.TheVariants.{Place, TooMany}
use Rattle.totem_script.specs.Actors.{Actor, log_of}
use Rattle.totem_script.specs.Casts.{Returned, lives_of, with_return}

-- the process has crashed, and numbers are left for its next life and for that life's ring
pub record CanReturn (a : Actor) : Type 0 where
  pub crashed : a.node.crashed ≡ true
  pub life : life_of a.proc < 65535
  pub seq : a.node.seq + 4 ≤ 4294967295

-- which answer the return of this process has, and exactly when
pub record ReturnsIfCrashed (actors : List Actor) (a : Actor) : Type 0 where
  pub comes : IsOk (with_return actors (id_of a.proc)) ↔ (CanReturn a × (lives_of actors < 32))
  pub place : (with_return actors (id_of a.proc) ≡ Err Place) ↔ (CanReturn a → ⊥)
  pub too_many : (with_return actors (id_of a.proc) ≡ Err TooMany) ↔ (CanReturn a × (lives_of actors ≡ 32))

-- one process, which had crashed, is in its next life, alone on a ring whose number is 4 above the greatest that its old
-- node made, filled or installed; the logs of its earlier lives and the other processes don't change
pub record IsNextLife (actors : List Actor) (p : ℕ) (done : Returned) : Type 0 where
  pub front : List Actor
  pub old : Actor
  pub new : Actor
  pub back : List Actor
  pub before : actors ≡ front ++ old ∷ back
  pub after : done.actors ≡ front ++ new ∷ back
  pub named : id_of old.proc ≡ p
  pub crashed : old.node.crashed ≡ true
  pub same : id_of new.proc ≡ p
  pub next : life_of new.proc ≡ life_of old.proc + 1
  pub seq : done.ring.seq ≡ old.node.seq + 4
  pub rep : done.ring.rep ≡ p
  pub alone : new.node ≡ new_node new.proc done.ring (new.proc ∷ [])
  pub begun : new.entries ≡ first_change done.ring (new.proc ∷ []) ∷ []
  pub kept : new.earlier ≡ old.earlier ++ log_of old ∷ []
