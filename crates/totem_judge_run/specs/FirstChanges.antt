-- The first change to each configuration so far (docs/SPECIFICATIONS.md, "2 Changes of configuration").
use Rattle.std.specs.Prelude.{◌≡◌, ℕ, ◌<◌, List, length, slice_get, Option, None, Some, Contains}
use Rattle.totem_names.specs.declared.ring.RingId.{RingId}
use Rattle.totem_names.specs.declared.conf.ConfId.{ConfId}
use Rattle.totem_names.specs.declared.conf.ConfId.TheVariants.{Regular, Transitional}
use Rattle.totem_evs.specs.declared.entry.Entry.{Entry}
use Rattle.totem_evs.specs.declared.log.Log.{Log}
use Rattle.totem_evs.specs.Events.{ChangesWith, IsChange, IsRegular, IsTransitional}
use Rattle.totem_evs.specs.Changes.{ChangesNext}
use Rattle.totem_judge_run.specs.declared.changes_2_3.FirstChange.{FirstChange}
use Rattle.totem_judge_run.specs.declared.first_changes.FirstChanges.{FirstChanges}
use Rattle.totem_judge_run.specs.Succession.{IsWrongSuccession}

-- ---- the change before another one

pub record NoneBefore (log : List Entry) (at : ℕ) : Type 0 where
  pub none : (k : ℕ) → k < at → IsChange log k → ⊥

-- the last change before this index is at i
pub record StandsBefore (log : List Entry) (at i : ℕ) : Type 0 where
  pub change : IsChange log i
  pub earlier : i < at
  pub none_between : (k : ℕ) → i < k → k < at → IsChange log k → ⊥

-- the last change before this index is the given one, or there is none
abbrev pub IsLastBefore : List Entry → ℕ → Option ℕ → Type 0
IsLastBefore log at None = NoneBefore log at
IsLastBefore log at (Some i) = StandsBefore log at i

-- ---- from which ring a log comes to a configuration

-- after a change to w: its own ring for a regular configuration, the ring of w for a transitional one
abbrev pub IsOrigin : ConfId → ConfId → RingId → Type 0
IsOrigin w (Regular d) c = c ≡ d
IsOrigin w (Transitional least next) c = w ≡ Regular c

-- the change at i may be followed by one to x, and c is the origin
pub record ComesBehind (log : List Entry) (i : ℕ) (x : ConfId) (ms : List ℕ) (c : RingId) : Type 0 where
  pub conf : ConfId
  pub members : List ℕ
  pub change : ChangesWith log i conf members
  pub right : IsWrongSuccession conf members x ms → ⊥
  pub origin : IsOrigin conf x c

-- a log may change to x after this change, or first of all, and c is the origin
abbrev pub ComesFrom : List Entry → Option ℕ → ConfId → List ℕ → RingId → Type 0
ComesFrom log None x ms c = x ≡ Regular c
ComesFrom log (Some i) x ms c = ComesBehind log i x ms c

-- ---- the first changes

-- a first change to x has these members and this origin
pub record IsMet (firsts : FirstChanges) (x : ConfId) (ms : List ℕ) (c : RingId) : Type 0 where
  pub at : ℕ
  pub change : FirstChange
  pub is : slice_get firsts.list.items at ≡ Some change
  pub conf : change.conf.now ≡ x
  pub members : change.members.now ≡ ms
  pub from : change.from.now ≡ c

-- no first change was lost
pub record Keeps (old new : FirstChanges) : Type 0 where
  pub each : (k : ℕ) (change : FirstChange) → slice_get old.list.items k ≡ Some change → slice_get new.list.items k ≡ Some change

-- a first change to x is known and has these members and this origin, and no first change was lost
pub record Meets (old new : FirstChanges) (x : ConfId) (ms : List ℕ) (c : RingId) : Type 0 where
  pub kept : Keeps old new
  pub met : IsMet new x ms c

-- ---- all changes

-- the change at an index of the log, to x with these members, meets the requirements
pub record IsRight (firsts : FirstChanges) (log : Log) (at : ℕ) (x : ConfId) (ms : List ℕ) : Type 0 where
  pub own : Contains ms log.proc
  pub regular : NoneBefore log.entries at → IsRegular x
  pub turns : (i : ℕ) (w : ConfId) (ls : List ℕ) → ChangesNext log.entries i at w x ls ms → IsWrongSuccession w ls x ms → ⊥
  pub from : RingId
  pub met : IsMet firsts x ms from
  pub origin : (i : ℕ) (c : RingId) (ls : List ℕ) → IsTransitional x → ChangesNext log.entries i at (Regular c) x ls ms → from ≡ c

-- if the entry at an index of the log is a change, it was entered, and meets the requirements
pub record Enters (old new : FirstChanges) (log : Log) (at : ℕ) : Type 0 where
  pub right : (x : ConfId) (ms : List ℕ) → ChangesWith log.entries at x ms → IsRight new log at x ms
  pub kept : Keeps old new

-- each change before an index of the log meets the requirements
pub record AreRight (firsts : FirstChanges) (log : Log) (at : ℕ) : Type 0 where
  pub each : (i : ℕ) → i < at → (x : ConfId) (ms : List ℕ) → ChangesWith log.entries i x ms → IsRight firsts log i x ms

-- the changes of the log were entered, and each meets the requirements
pub record EntersLog (old new : FirstChanges) (log : Log) : Type 0 where
  pub right : AreRight new log (length log.entries)
  pub kept : Keeps old new
