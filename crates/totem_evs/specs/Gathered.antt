-- The logs that parts make, one part after the other.
use Rattle.std.specs.Prelude.{◌≡◌, ℕ, List, [], ◌∷◌, ◌++◌, Option, Some, None}
use Rattle.totem_evs.specs.declared.entry.Entry.{Entry}
use Rattle.totem_evs.specs.declared.ending.Ending.{Ending}
use Rattle.totem_evs.specs.declared.part.Part.{Part}
use Rattle.totem_evs.specs.declared.part.Part.TheVariants as parts
use Rattle.totem_evs.specs.LogRecord.{LogRecord}
use Rattle.totem_evs.specs.Runs.{IsEntries, IsClosedBy}

-- the logs that have ended, and the process and entries of the one that has not
pub record GatheredLogs : Type 0 where
  pub logs : List LogRecord
  pub proc : Option ℕ
  pub entries : List Entry

-- before the first part
abbrev pub none_gathered : GatheredLogs
none_gathered = record { logs = []; proc = None; entries = [] }

-- the logs with one more, if one has begun
abbrev pub with_log : List LogRecord → Option ℕ → List Entry → Ending → List LogRecord
with_log logs None entries ending = logs
with_log logs (Some p) entries ending = logs ++ record { proc = p; entries = entries; ending = ending } ∷ []

-- what is gathered with one more part
abbrev pub gathered : GatheredLogs → Part → GatheredLogs
gathered g (parts.Log p) = record { logs = g.logs; proc = Some p; entries = [] }
gathered g (parts.Entry e) = record { logs = g.logs; proc = g.proc; entries = g.entries ++ e ∷ [] }
gathered g (parts.Close ending) = record { logs = with_log g.logs g.proc g.entries ending; proc = None; entries = [] }

-- if the part ends a log, the entries of the log may end in this way
abbrev pub MayGather : GatheredLogs → Part → Type 0
MayGather g (parts.Log p) = Unit {0}
MayGather g (parts.Entry e) = Unit {0}
MayGather g (parts.Close ending) = (p : ℕ) → g.proc ≡ Some p → IsEntries g.entries × IsClosedBy g.entries ending
