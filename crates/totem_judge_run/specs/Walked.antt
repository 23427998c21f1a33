-- One walk along a log (docs/SPECIFICATIONS.md, "1 Basic delivery", "2 Changes of configuration").
use Rattle.std.specs.Prelude.{ℕ, List, Option, Some}
use Rattle.totem_names.specs.declared.message.MsgId.{MsgId}
use Rattle.totem_evs.specs.declared.entry.Entry.{Entry}
use Rattle.totem_evs.specs.declared.entry.Entry.TheVariants.{Conf, Send, Deliver, Fail}
use Rattle.totem_evs.specs.declared.log.Log.{Log}
use Rattle.totem_evs.specs.Changes.{StaysInPlace}
use Rattle.totem_judge_run.specs.declared.first_changes.FirstChanges.{FirstChanges}
use Rattle.totem_judge_run.specs.Once.{AddsSends}
use Rattle.totem_judge_run.specs.FirstChanges.{EntersLog}

-- the index of the last change once the entry at `at` has been passed
abbrev pub last_after : Option ℕ → ℕ → Entry → Option ℕ
last_after before at (Conf x members) = Some at
last_after before at (Send m x service) = before
last_after before at (Deliver m x) = before
last_after before at (Fail x) = before

-- the log stays in place, its sends were appended, and its changes entered
pub record IsWalked (sent sending : List MsgId) (old new : FirstChanges) (log : Log) : Type 0 where
  pub placed : StaysInPlace log.entries
  pub sends : AddsSends sent sending log.entries
  pub changes : EntersLog old new log
