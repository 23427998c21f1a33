-- The parts of the logs that are in one regular configuration and in what follows it
-- (docs/SPECIFICATIONS.md, "Following", "Passes").
use Rattle.std.specs.Prelude.{◌≡◌, ◌↔◌, ℕ, ◌<◌, ◌≤◌, false, IsTrue, List, length, slice_get, Some, All, AllPairs}
use Rattle.totem_names.specs.declared.ring.RingId.{RingId}
use Rattle.totem_names.specs.declared.conf.ConfId.TheVariants.{Regular}
use Rattle.totem_evs.specs.declared.log.Log.{Log}
use Rattle.totem_evs.specs.Events.{ChangesTo, IsQuiet, log_of}
use Rattle.totem_evs.specs.Following.{NeverFails}
use Rattle.totem_evs.specs.declared.ending.Ending.TheVariants.{Quiet}
use Rattle.totem_judge_run.specs.Stays.{AreNextTwo, IsStay}
use Rattle.totem_pass_d.specs.declared.stays.Stay.{Stay}
use Rattle.totem_pass_d.specs.Indexes.{told, Tells}

-- the stay is within its log, which is not too long
pub record IsShortStay (stay : Stay) : Type 0 where
  pub before : stay.from < stay.turn
  pub within : stay.turn ≤ length stay.log.now
  pub few : length stay.log.now ≤ 1000000

-- this is the part of a log from an index up to the change after the next one
pub record IsStayFrom (whole : Log) (at : ℕ) (stay : Stay) : Type 0 where
  pub proc : stay.proc ≡ whole.proc
  pub log : stay.log.now ≡ whole.entries
  pub quiet : IsTrue stay.quiet ↔ (whole.ending ≡ Quiet)
  pub from : stay.from ≡ at
  pub next : AreNextTwo whole.entries at stay.turn stay.end
  pub told : Tells (told stay.deliveries) stay.log.now stay.from stay.end stay.end

-- the stay extends to the end of its log, which is not quiet: the process failed there, or it is open
abbrev pub IsExcused : Stay → Type 0
IsExcused stay = (stay.end ≡ length stay.log.now) × (stay.quiet ≡ false)

-- this is p's stay in c. A quiet log has no failure
pub record IsStayOf (run : List Log) (c : RingId) (stay : Stay) : Type 0 where
  pub log : stay.log.now ≡ log_of run stay.proc
  pub few : length stay.log.now ≤ 1000000
  pub quiet : IsTrue stay.quiet ↔ IsQuiet run stay.proc
  pub unfailed : IsTrue stay.quiet → NeverFails stay.log.now
  pub is : IsStay stay.log.now c stay.from stay.turn stay.end
  pub told : Tells (told stay.deliveries) stay.log.now stay.from stay.end stay.end

-- one process is below the other
abbrev pub IsBelowStay : Stay → Stay → Type 0
IsBelowStay a b = a.proc < b.proc

-- one of the stays is p's
pub record HasStay (stays : List Stay) (p : ℕ) : Type 0 where
  pub at : ℕ
  pub stay : Stay
  pub stands : slice_get stays at ≡ Some stay
  pub proc : stay.proc ≡ p

-- the stays of all logs that change to c, by process
pub record AreStays (run : List Log) (c : RingId) (stays : List Stay) : Type 0 where
  pub each : All (IsStayOf run c) stays
  pub rising : AllPairs IsBelowStay stays
  pub whole : (p i : ℕ) → ChangesTo (log_of run p) i (Regular c) → HasStay stays p
