-- How far a run has been read, and how the next part changes that (docs/SPECIFICATIONS.md, "Run text").
use Rattle.totem_names.specs.declared.version.Version.{Version}
use Rattle.std.specs.Prelude.{◌≡◌, ℕ, ◌<◌, ◌≤◌, ◌==◌, ◌++◌, ◌↔◌, ◌⊎◌, List, [], ◌∷◌, length, Contains, Option, Some, None, Bool, true, false, nat_lt}
use Rattle.std.specs.Option.{ForSome}
use Rattle.totem_evs.specs.declared.ending.Ending.TheVariants.{Standing, Failed, Quiet}
use Rattle.totem_evs.specs.declared.part.Part.{Part}
use Rattle.totem_evs.specs.declared.part.Part.TheVariants as parts
use Rattle.totem_evs.specs.declared.stage.Stage.{Stage}
use Rattle.totem_evs.specs.declared.stage.OpenLog.{OpenLog}
use Rattle.totem_names.specs.declared.version.Version.TheVariants.{Three}
use Rattle.totem_names.specs.Processes.{IsProcessIn}
use Rattle.totem_evs.specs.Runs.{IsEntry}
use Rattle.totem_evs.specs.Endings.{writes_quiet}
use Rattle.totem_evs.specs.Missing.{members_of}
use Rattle.totem_evs.specs.Parts.{first_stage, next_stage}

-- the processes whose logs have begun, and the members that have no log yet
pub record RosterState : Type 0 where
  pub begun : List ℕ
  pub waiting : List ℕ

-- the log of each of these has begun, or it waits for one
abbrev pub AreNoted : List ℕ → List ℕ → List ℕ → Type 0
AreNoted begun waiting members = (q : ℕ) → Contains members q → (Contains begun q → ⊥) → Contains waiting q

-- how far the text has been read, the processes whose logs have begun, and the members that have no log yet
pub record ReadState : Type 0 where
  pub stage : Stage
  pub begun : List ℕ
  pub waiting : List ℕ

-- the limits of a run are kept, and no process whose log has begun waits for one
pub record IsReadState (s : ReadState) : Type 0 where
  pub few_logs : s.stage.logs ≤ 32
  pub few_entries : ForSome s.stage.log (λ log. log.entries ≤ 1000000)
  pub count : length s.begun ≡ s.stage.logs
  pub apart : (q : ℕ) → Contains s.waiting q → Contains s.begun q → ⊥

-- after the first line, which is that of this version
pub record IsFirst (version : Version) (s : ReadState) : Type 0 where
  pub stage : s.stage ≡ first_stage version
  pub begun : s.begun ≡ []
  pub waiting : s.waiting ≡ []

-- the process whose log begins with this part
abbrev pub begun_by : Part → List ℕ
begun_by (parts.Log p) = p ∷ []
begun_by (parts.Entry e) = []
begun_by (parts.Close ending) = []

-- the members that the part names
abbrev pub named_by : Part → List ℕ
named_by (parts.Log p) = []
named_by (parts.Entry e) = members_of e
named_by (parts.Close ending) = []

-- the state after one more part: the members that waited or are named now wait, if their logs have not begun
pub record Goes (old : ReadState) (part : Part) (new : ReadState) : Type 0 where
  pub stage : new.stage ≡ next_stage old.stage part
  pub begun : new.begun ≡ old.begun ++ begun_by part
  pub waiting : (q : ℕ) → Contains new.waiting q ↔ ((Contains old.waiting q ⊎ Contains (named_by part) q) × (Contains new.begun q → ⊥))

-- the names of the part are in range
abbrev pub IsPart : Part → Type 0
IsPart (parts.Log p) = IsProcessIn Three p
IsPart (parts.Entry e) = IsEntry e
IsPart (parts.Close ending) = Unit {0}

-- between logs: a log above the last one while there are fewer than 32, or the end
abbrev pub ComesBetween : ℕ → ℕ → Option Part → Type 0
ComesBetween logs last None = Unit {0}
ComesBetween logs last (Some (parts.Log p)) = ((logs == 32) ≡ false) × (last < p)
ComesBetween logs last (Some (parts.Entry e)) = ⊥
ComesBetween logs last (Some (parts.Close ending)) = ⊥

-- in a log: an entry while there are fewer than 1,000,000, or the closing word that fits the last entry (`quiet` only if the version writes it)
abbrev pub ComesWithin : Bool → ℕ → Bool → Option Part → Type 0
ComesWithin written entries failed None = ⊥
ComesWithin written entries failed (Some (parts.Log p)) = ⊥
ComesWithin written entries failed (Some (parts.Entry e)) = (entries == 1000000) ≡ false
ComesWithin written entries failed (Some (parts.Close Standing)) = (nat_lt 0 entries ≡ true) × (failed ≡ false)
ComesWithin written entries failed (Some (parts.Close Failed)) = failed ≡ true
ComesWithin written entries failed (Some (parts.Close Quiet)) = (written ≡ true) × (nat_lt 0 entries ≡ true) × (failed ≡ false)

-- what may follow, depending on whether a log has not ended
abbrev pub ComesIn : Version → ℕ → ℕ → Option OpenLog → Option Part → Type 0
ComesIn version logs last None part = ComesBetween logs last part
ComesIn version logs last (Some log) part = ComesWithin (writes_quiet version) log.entries log.failed part

-- what may follow: a part or the end
abbrev pub MayCome : Stage → Option Part → Type 0
MayCome stage part = ComesIn stage.version stage.logs stage.last stage.log part
