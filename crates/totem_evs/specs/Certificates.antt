-- A certificate: numbers for the events of a run (docs/SPECIFICATIONS.md, "Certificates").
use Rattle.std.specs.Prelude.{◌≡◌, ◌⊎◌, ℕ, zero, suc, ◌<◌, List, [], ◌∷◌, length, map, All, slice_get, Option, Some, None, ◌==◌, if◌then◌else◌}
use Rattle.totem_names.specs.declared.conf.ConfId.{ConfId}
use Rattle.totem_names.specs.declared.message.MsgId.{MsgId}
use Rattle.totem_names.specs.declared.place.Place.{Place}
use Rattle.totem_evs.specs.declared.log.Log.{Log}
use Rattle.totem_evs.specs.Events.{IsEvent, IsBefore}
use Rattle.totem_evs.specs.Steps.{SendsAt, DeliversAt, SameClass}

-- a line of a certificate: a process, and a number for each entry of its log
pub record Numbering : Type 0 where
  pub proc : ℕ
  pub numbers : List ℕ

-- the numbers of p's line, or none if it has no line
abbrev pub numbers_of : List Numbering → ℕ → List ℕ
numbers_of [] p = []
numbers_of (line ∷ lines) p = if line.proc == p then line.numbers else numbers_of lines p

abbrev pub number_in : List ℕ → ℕ → Option ℕ
number_in numbers zero = None
number_in numbers (suc i) = slice_get numbers i

-- the number of a place
abbrev pub number_at : List Numbering → Place → Option ℕ
number_at lines e = number_in (numbers_of lines e.proc) e.at

-- a line for each log, a number for each entry
abbrev pub Matches : List Log → List Numbering → Type 0
Matches run lines = map {B = ℕ × ℕ} (λ log. (log.proc, length log.entries)) run ≡ map {B = ℕ × ℕ} (λ line. (line.proc, length line.numbers)) lines

-- e's number is below f's
abbrev pub IsBelow : List Numbering → Place → Place → Type 0
IsBelow lines e f = (i j : ℕ) × (number_at lines e ≡ Some i) × (number_at lines f ≡ Some j) × (i < j)

-- the lines number the events as their order requires: ascending in each log, a send below its deliveries, and the same
-- number for two events if and only if they are of one class
pub record Certified (run : List Log) (lines : List Numbering) : Type 0 where
  pub matches : Matches run lines
  pub positive : All (λ line. All (λ n. 0 < n) line.numbers) lines
  pub rises : (e f : Place) → IsEvent run e → IsEvent run f → IsBefore e f → IsBelow lines e f
  pub sent : (e f : Place) (m : MsgId) (x : ConfId) → SendsAt run e m x → DeliversAt run f m → IsBelow lines e f
  pub shared : (e f : Place) → SameClass run e f → number_at lines e ≡ number_at lines f
  pub apart : (e f : Place) → IsEvent run e → IsEvent run f → number_at lines e ≡ number_at lines f → (e ≡ f) ⊎ SameClass run e f
