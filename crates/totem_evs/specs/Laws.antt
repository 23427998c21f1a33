-- Laws of the definitions (docs/SPECIFICATIONS.md, "What is proved of the definitions").
use Rattle.std.specs.Prelude.{List}
use Rattle.totem_names.specs.declared.place.Place.{Place}
use Rattle.totem_evs.specs.declared.log.Log.{Log}
use Rattle.totem_evs.specs.declared.spec.SpecNo.{SpecNo}
use Rattle.totem_evs.specs.Delivery.{NoCycle, LogsAreOrdered}
use Rattle.totem_evs.specs.Changes.{TwinsAgree}
use Rattle.totem_evs.specs.Agreement.{HasTotalOrder}
use Rattle.totem_evs.specs.Synchrony.{IsVirtuallySynchronous}
use Rattle.totem_evs.specs.Faults.{Breaks}
use Rattle.totem_evs.specs.Certificates.{Numbering, Certified}

-- a run in which events break a specification does not meet the specifications
abbrev pub BreaksAreBreaks : Type 0
BreaksAreBreaks = (run : List Log) (k : SpecNo) (places : List Place) → Breaks run k places → IsVirtuallySynchronous run → ⊥

-- in a certified run no event precedes itself, and the events have a total order
abbrev pub CertifiedIsOrdered : Type 0
CertifiedIsOrdered = (run : List Log) (lines : List Numbering) → Certified run lines → NoCycle run × HasTotalOrder run

-- the events of one log are ordered, in every run
abbrev pub EachLogIsOrdered : Type 0
EachLogIsOrdered = (run : List Log) → LogsAreOrdered run

-- twin changes have the same relations to all other events, in every run
abbrev pub EachTwinsAgree : Type 0
EachTwinsAgree = (run : List Log) → TwinsAgree run
