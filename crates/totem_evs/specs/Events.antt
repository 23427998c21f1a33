-- What is in a log, and where (docs/SPECIFICATIONS.md, "Runs"). Here the entries of a log are counted from 0; a place
-- counts them from 1.
use Rattle.std.specs.Prelude.{◌≡◌, ℕ, zero, suc, ◌<◌, List, [], ◌∷◌, Contains, slice_get, Option, Some, None, ◌==◌, if◌then◌else◌}
use Rattle.totem_names.specs.declared.conf.ConfId.{ConfId}
use Rattle.totem_names.specs.declared.conf.ConfId.TheVariants.{Regular, Transitional}
use Rattle.totem_names.specs.declared.message.MsgId.{MsgId}
use Rattle.totem_names.specs.declared.place.Place.{Place}
use Rattle.totem_names.specs.declared.message.Service.{Service}
use Rattle.totem_names.specs.declared.message.Service.TheVariants.{Safe}
use Rattle.totem_evs.specs.declared.entry.Entry.{Entry}
use Rattle.totem_evs.specs.declared.entry.Entry.TheVariants.{Conf, Send, Deliver, Fail}
use Rattle.totem_evs.specs.declared.log.Log.{Log}
use Rattle.totem_evs.specs.declared.ending.Ending.{Ending}
use Rattle.totem_evs.specs.declared.ending.Ending.TheVariants.{Standing, Quiet}

abbrev pub IsRegular : ConfId → Type 0
IsRegular (Regular c) = Unit {0}
IsRegular (Transitional least next) = ⊥

abbrev pub IsTransitional : ConfId → Type 0
IsTransitional (Regular c) = ⊥
IsTransitional (Transitional least next) = Unit {0}

-- the entry at i is a change to x with these members
abbrev pub ChangesWith : List Entry → ℕ → ConfId → List ℕ → Type 0
ChangesWith log i x members = slice_get log i ≡ Some (Conf x members)

-- the entry at i is a change to x
abbrev pub ChangesTo : List Entry → ℕ → ConfId → Type 0
ChangesTo log i x = (members : List ℕ) × ChangesWith log i x members

abbrev pub IsChange : List Entry → ℕ → Type 0
IsChange log i = (x : ConfId) × ChangesTo log i x

-- the entry at i is a send of m in x
abbrev pub Sends : List Entry → ℕ → MsgId → ConfId → Type 0
Sends log i m x = (service : Service) × (slice_get log i ≡ Some (Send m x service))

-- the entry at i is a delivery of m in x
abbrev pub Delivers : List Entry → ℕ → MsgId → ConfId → Type 0
Delivers log i m x = slice_get log i ≡ Some (Deliver m x)

-- the entry at i is a failure in x
abbrev pub Fails : List Entry → ℕ → ConfId → Type 0
Fails log i x = slice_get log i ≡ Some (Fail x)

-- p's log, or an empty one if it has none
abbrev pub log_of : List Log → ℕ → List Entry
log_of [] p = []
log_of (log ∷ logs) p = if log.proc == p then log.entries else log_of logs p

-- how p's log ends; open if it has none
abbrev pub ending_of : List Log → ℕ → Ending
ending_of [] p = Standing
ending_of (log ∷ logs) p = if log.proc == p then log.ending else ending_of logs p

-- p's log is quiet: it claims that nothing more was to come
abbrev pub IsQuiet : List Log → ℕ → Type 0
IsQuiet run p = ending_of run p ≡ Quiet

abbrev pub at_place : List Entry → ℕ → Option Entry
at_place log zero = None
at_place log (suc i) = slice_get log i

-- the entry at a place of the run
abbrev pub entry_at : List Log → Place → Option Entry
entry_at run e = at_place (log_of run e.proc) e.at

-- an event: a place that has an entry
abbrev pub IsEvent : List Log → Place → Type 0
IsEvent run e = (x : Entry) × (entry_at run e ≡ Some x)

-- e is before f in one log
abbrev pub IsBefore : Place → Place → Type 0
IsBefore e f = (e.proc ≡ f.proc) × (e.at < f.at)

-- some process sent m in x
abbrev pub WasSentIn : List Log → MsgId → ConfId → Type 0
WasSentIn run m x = (p i : ℕ) × Sends (log_of run p) i m x

-- m was sent as a safe message
abbrev pub IsSafe : List Log → MsgId → Type 0
IsSafe run m = (p i : ℕ) × (x : ConfId) × (slice_get (log_of run p) i ≡ Some (Send m x Safe))

-- q is a member of x, by some change to x
abbrev pub IsMember : List Log → ConfId → ℕ → Type 0
IsMember run x q = (p i : ℕ) × (members : List ℕ) × ChangesWith (log_of run p) i x members × Contains members q
