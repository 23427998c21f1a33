-- What the plain checker asks of logs, in words of its own where the definitions have none.
use Rattle.std.specs.Prelude.{◌≡◌, ℕ, ◌<◌, List, Contains, Option, Some, None}
use Rattle.totem_names.specs.declared.ring.RingId.{RingId}
use Rattle.totem_names.specs.declared.conf.ConfId.{ConfId}
use Rattle.totem_names.specs.declared.message.MsgId.{MsgId}
use Rattle.totem_names.specs.declared.message.Service.TheVariants.{Safe}
use Rattle.totem_evs.specs.declared.entry.Entry.{Entry}
use Rattle.totem_evs.specs.declared.entry.Entry.TheVariants.{Conf, Send}
use Rattle.totem_evs.specs.declared.log.Log.{Log}
use Rattle.totem_evs.specs.Events.{ChangesTo, IsChange, Delivers, Fails, IsSafe, IsMember, log_of, ending_of}
use Rattle.totem_evs.specs.Changes.{Names, StandsIn}
use Rattle.totem_evs.specs.Missing.{HasLog}
use Rattle.totem_evs.specs.Following.{Com, DeliversIn, LastChange}

-- an entry before j delivers m in c or in what follows it
abbrev pub DeliversBefore : List Entry → RingId → MsgId → ℕ → Type 0
DeliversBefore log c m j = (i : ℕ) × (i < j) × DeliversIn log c m i

-- an entry before j delivers m in x
abbrev pub DeliversInConf : List Entry → ℕ → MsgId → ConfId → Type 0
DeliversInConf log j m x = (i : ℕ) × (i < j) × Delivers log i m x

-- ---- of entries, and of all logs

abbrev pub IsEntrySend : MsgId → Entry → Type 0
IsEntrySend m (Send n x service) = n ≡ m
IsEntrySend m _ = ⊥

abbrev pub IsEntrySafe : MsgId → Entry → Type 0
IsEntrySafe m (Send n x Safe) = n ≡ m
IsEntrySafe m _ = ⊥

-- one of these processes has the property
abbrev pub SomeOf : (ℕ → Type 0) → List ℕ → Type 0
SomeOf P members = (q : ℕ) × Contains members q × P q

-- a change to x that lists a process with the property
abbrev pub IsEntryMember : ConfId → (ℕ → Type 0) → Entry → Type 0
IsEntryMember x P (Conf y ms) = (y ≡ x) × SomeOf P ms
IsEntryMember x P _ = ⊥

-- some member of x has the property
abbrev pub SomeMember : (ℕ → Type 0) → List Log → ConfId → Type 0
SomeMember P run x = (q : ℕ) × IsMember run x q × P q

-- m was sent as a safe message, and some member of x has the property
pub record MissesSafe (P : ℕ → Type 0) (run : List Log) (m : MsgId) (x : ConfId) : Type 0 where
  pub safe : IsSafe run m
  pub missed : SomeMember P run x

-- this is p's log
pub record IsLogOf (run : List Log) (p : ℕ) (log : Log) : Type 0 where
  pub has : HasLog run p
  pub entries : log_of run p ≡ log.entries
  pub ending : ending_of run p ≡ log.ending

-- p has no log
pub record HasNoLog (run : List Log) (p : ℕ) : Type 0 where
  pub none : HasLog run p → ⊥

abbrev pub IsFailureAt : List Entry → ℕ → Type 0
IsFailureAt log i = (x : ConfId) × Fails log i x

-- an entry before i is a failure
abbrev pub FailsBefore : List Entry → ℕ → Type 0
FailsBefore log i = (k : ℕ) × (x : ConfId) × (k < i) × Fails log k x

-- i is the beginning, and no change is there
abbrev pub IsNoBeginning : List Entry → ℕ → Type 0
IsNoBeginning log i = (i ≡ 0) × (IsChange log i → ⊥)

-- the entry at i names a configuration that it is not in
abbrev pub IsElsewhere : List Entry → ℕ → Type 0
IsElsewhere log i = (x : ConfId) × Names log i x × (StandsIn log i x → ⊥)

-- ---- at an index of a log

-- no change is the last one
pub record NoLastChange (log : List Entry) : Type 0 where
  pub none : (x : ConfId) → LastChange log x → ⊥

abbrev pub IsSomeBefore : Option ℕ → ℕ → Type 0
IsSomeBefore None j = ⊥
IsSomeBefore (Some i) j = i < j

-- the last change before j is that at i, to x
abbrev pub IsLastChangeBefore : List Entry → ConfId → ℕ → ℕ → Type 0
IsLastChangeBefore log x j i = (i < j) × ChangesTo log i x × ((k : ℕ) → i < k → k < j → IsChange log k → ⊥)

abbrev pub FailsInAt : List Entry → RingId → ℕ → Type 0
FailsInAt log c i = (d : ConfId) × Fails log i d × Com log c d

abbrev pub LastIsIn : List Entry → RingId → Type 0
LastIsIn log c = (d : ConfId) × LastChange log d × Com log c d
