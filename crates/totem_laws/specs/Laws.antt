-- Laws of the specifications, one by one (docs/SPECIFICATIONS.md, "What is proved of the definitions").
use Rattle.std.specs.Prelude.{◌↔◌, List, All}
use Rattle.totem_names.specs.declared.place.Place.{Place}
use Rattle.totem_evs.specs.declared.log.Log.{Log}
use Rattle.totem_evs.specs.declared.fault.Fault.{Fault}
use Rattle.totem_evs.specs.declared.spec.SpecNo.{SpecNo}
use Rattle.totem_evs.specs.declared.spec.SpecNo.TheVariants as spec
use Rattle.totem_evs.specs.Synchrony.{IsVirtuallySynchronous}
use Rattle.totem_evs.specs.Faults.{Breaks}
use Rattle.totem_evs.specs.Answers.{No, IsAnswered, Meets}

-- if places break a specification, the run does not meet it
abbrev pub BrokenIsNotMet : Type 0
BrokenIsNotMet = (run : List Log) (k : SpecNo) (places : List Place) → Breaks run k places → Meets run k → ⊥

-- each fault of a no names a specification that the run does not meet
abbrev pub FaultsAreNotMet : Type 0
FaultsAreNotMet = (run : List Log) (faults : List Fault) → IsAnswered run (No faults) → All (λ fault. Meets run fault.spec → ⊥) faults

-- a run meets specifications 1 to 7 exactly if it meets each specification that a fault can name
abbrev pub EachIsMet : Type 0
EachIsMet = (run : List Log) → IsVirtuallySynchronous run ↔ ((k : SpecNo) → Meets run k)

-- if 2.2 holds, what breaks 7.2 breaks 7.1
abbrev pub InstalledBreaksWithSafety : Type 0
InstalledBreaksWithSafety = (run : List Log) (places : List Place) → Meets run spec.Misplaced → Breaks run spec.Installed places → Breaks run spec.Safety places
