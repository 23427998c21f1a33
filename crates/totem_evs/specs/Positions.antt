-- The one certificate of a run: repeatedly, the ready class that holds the least place gets the next number
-- (docs/SPECIFICATIONS.md, "Positions").
use Rattle.std.specs.Prelude.{◌≡◌, ℕ, ◌<◌, ◌≤◌, List, Some}
use Rattle.totem_names.specs.declared.place.Place.{Place}
use Rattle.totem_evs.specs.declared.log.Log.{Log}
use Rattle.totem_evs.specs.Certificates.{Numbering, number_at, Certified}
use Rattle.totem_evs.specs.Classes.{WaitsFor, ClassAtMost}

-- e has a number below k
pub record IsNumberedBelow (lines : List Numbering) (e : Place) (k : ℕ) : Type 0 where
  pub number : ℕ
  pub given : number_at lines e ≡ Some number
  pub below : number < k

-- all that e's class waits for has numbers below k, so that the class was ready when k was given
pub record IsReadyAt (run : List Log) (lines : List Numbering) (e : Place) (k : ℕ) : Type 0 where
  pub each : (g : Place) → WaitsFor run e g → IsNumberedBelow lines g k

pub record IsPositions (run : List Log) (lines : List Numbering) : Type 0 where
  pub certified : Certified run lines
  -- no number is left out: the numbers are those from 1 to the greatest
  pub dense : (e : Place) (j k : ℕ) → number_at lines e ≡ Some k → 0 < j → j ≤ k → (f : Place) × (number_at lines f ≡ Some j)
  -- of the classes that were ready when k was given, the one that has it holds the least place
  pub least : (e f : Place) (k l : ℕ) → number_at lines e ≡ Some k → number_at lines f ≡ Some l → k < l → IsReadyAt run lines f k → ClassAtMost run e f
