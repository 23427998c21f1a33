-- What follows a regular configuration in a log, and who failed or is open there
-- (docs/SPECIFICATIONS.md, "Following", "Failed and open").
use Rattle.std.specs.Prelude.{◌≡◌, ◌⊎◌, ℕ, ◌<◌, ◌≤◌, List, length}
use Rattle.totem_names.specs.declared.ring.RingId.{RingId}
use Rattle.totem_names.specs.declared.conf.ConfId.{ConfId}
use Rattle.totem_names.specs.declared.conf.ConfId.TheVariants.{Regular}
use Rattle.totem_names.specs.declared.message.MsgId.{MsgId}
use Rattle.totem_evs.specs.declared.entry.Entry.{Entry}
use Rattle.totem_evs.specs.declared.log.Log.{Log}
use Rattle.totem_evs.specs.Events.{ChangesTo, ChangesWith, IsChange, Delivers, Fails, IsTransitional, IsQuiet, log_of}

-- j is the next change after i
pub record IsNextChange (log : List Entry) (i j : ℕ) : Type 0 where
  pub change : IsChange log j
  pub later : i < j
  pub none_between : (k : ℕ) → i < k → k < j → IsChange log k → ⊥

-- j is the next change after i, or the end of the log where no change follows
pub record IsNextOrEnd (log : List Entry) (i j : ℕ) : Type 0 where
  pub later : i < j
  pub within : j ≤ length log
  pub change : j < length log → IsChange log j
  pub none_between : (k : ℕ) → i < k → k < j → IsChange log k → ⊥

-- i is the first change to x
pub record IsFirstChange (log : List Entry) (x : ConfId) (i : ℕ) : Type 0 where
  pub change : ChangesTo log i x
  pub none_before : (k : ℕ) → k < i → ChangesTo log k x → ⊥

-- the last change is to x
pub record LastChange (log : List Entry) (x : ConfId) : Type 0 where
  pub index : ℕ
  pub change : ChangesTo log index x
  pub none_after : (k : ℕ) → index < k → IsChange log k → ⊥

-- the change at i is the last one, to x with these members
pub record IsLastChange (log : List Entry) (i : ℕ) (x : ConfId) (members : List ℕ) : Type 0 where
  pub change : ChangesWith log i x members
  pub none_after : (k : ℕ) → i < k → IsChange log k → ⊥

-- t is the configuration of the next change after the first change to c, and it is transitional
pub record Follows (log : List Entry) (c : RingId) (t : ConfId) : Type 0 where
  pub from : ℕ
  pub to : ℕ
  pub first : IsFirstChange log (Regular c) from
  pub next : IsNextChange log from to
  pub change : ChangesTo log to t
  pub transitional : IsTransitional t

-- d is c or the configuration that follows it
abbrev pub Com : List Entry → RingId → ConfId → Type 0
Com log c d = (d ≡ Regular c) ⊎ Follows log c d

-- the entry at i delivers m in c or in what follows it
abbrev pub DeliversIn : List Entry → RingId → MsgId → ℕ → Type 0
DeliversIn log c m i = (d : ConfId) × Delivers log i m d × Com log c d

-- the log delivers m there
abbrev pub HasDelivered : List Entry → RingId → MsgId → Type 0
HasDelivered log c m = (i : ℕ) × DeliversIn log c m i

-- the log has no failure
abbrev pub NeverFails : List Entry → Type 0
NeverFails log = (i : ℕ) (x : ConfId) → Fails log i x → ⊥

-- the log has a failure in c or in what follows it
abbrev pub FailedIn : List Entry → RingId → Type 0
FailedIn log c = (i : ℕ) × (d : ConfId) × Fails log i d × Com log c d

-- the log has no failure, and its last change is to c or to what follows it
abbrev pub StaysIn : List Entry → RingId → Type 0
StaysIn log c = (d : ConfId) × NeverFails log × LastChange log d × Com log c d

-- p is open there: its log stays there, and is not quiet
abbrev pub OpenIn : List Log → ℕ → RingId → Type 0
OpenIn run p c = (IsQuiet run p → ⊥) × StaysIn (log_of run p) c

-- p delivers m in c or in what follows it, failed there, or is open there
abbrev pub DeliversOrEnds : List Log → ℕ → RingId → MsgId → Type 0
DeliversOrEnds run p c m = HasDelivered (log_of run p) c m ⊎ FailedIn (log_of run p) c ⊎ OpenIn run p c
