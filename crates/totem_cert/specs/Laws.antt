-- Laws of certificates and closed lists (docs/SPECIFICATIONS.md, "What is proved of the definitions").
use Rattle.std.specs.Prelude.{◌≡◌, List}
use Rattle.totem_names.specs.declared.place.Place.{Place}
use Rattle.totem_evs.specs.declared.log.Log.{Log}
use Rattle.totem_evs.specs.declared.spec.SpecNo.{SpecNo}
use Rattle.totem_evs.specs.Certificates.{Numbering, number_at, Certified}
use Rattle.totem_evs.specs.Positions.{IsPositions}
use Rattle.totem_evs.specs.ClosedLists.{IsClosedList}

-- two certificates of one run give each place the same number
abbrev pub PositionsAreOne : Type 0
PositionsAreOne = (run : List Log) (a b : List Numbering) → IsPositions run a → IsPositions run b → (e : Place) → number_at a e ≡ number_at b e

-- no lines certify a run with a closed list
abbrev pub ClosedListsExcludeCertificates : Type 0
ClosedListsExcludeCertificates = (run : List Log) (k : SpecNo) (places : List Place) (lines : List Numbering) → IsClosedList run k places → Certified run lines → ⊥

-- two closed lists of one run are equal, and break the same specification
abbrev pub ClosedListsAreOne : Type 0
ClosedListsAreOne = (run : List Log) (k l : SpecNo) (a b : List Place) → IsClosedList run k a → IsClosedList run l b → (k ≡ l) × (a ≡ b)
