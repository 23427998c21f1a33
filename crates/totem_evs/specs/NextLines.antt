-- Which lines may follow (docs/SPECIFICATIONS.md, "Run text").
use Rattle.std.specs.Prelude.{◌≡◌, ℕ, ◌<◌, ◌==◌, nat_lt, Option, Some, None, Bool, true, false}
use Rattle.totem_evs.specs.declared.ending.Ending.TheVariants.{Standing, Failed, Quiet}
use Rattle.totem_evs.specs.declared.lines.Line.{Line}
use Rattle.totem_evs.specs.declared.stage.OpenLog.{OpenLog}
use Rattle.totem_evs.specs.declared.lines.Line.TheVariants as lines

-- in a log that is full or not and has some entries, the last a failure or not: an entry while it is not full; `open`
-- after an entry that is no failure, and `quiet` too where that is written; `failed` after a failure
abbrev pub MayFollow : Bool → Bool → Bool → Bool → Line → Type 0
MayFollow written full some failed (lines.Entry e) = full ≡ false
MayFollow written full some failed (lines.Close Standing) = (some ≡ true) × (failed ≡ false)
MayFollow written full some failed (lines.Close Failed) = failed ≡ true
MayFollow written full some failed (lines.Close Quiet) = (written ≡ true) × (some ≡ true) × (failed ≡ false)

-- in a log that has not ended
abbrev pub FollowsIn : Bool → OpenLog → Line → Type 0
FollowsIn written log line = MayFollow written (log.entries == 1000000) (nat_lt 0 log.entries) log.failed line

-- in a run that is full or not: the last line, or while it is not full a log whose process is above the last one
abbrev pub MayBegin : Bool → ℕ → Option ℕ → Type 0
MayBegin full last None = Unit {0}
MayBegin full last (Some p) = (full ≡ false) × (last < p)
