-- Why lines of numbers do not certify a run: the first reason (docs/SPECIFICATIONS.md, "The checker").
use Rattle.std.specs.Prelude.{◌≡◌, ◌≢◌, ◌⊎◌, List, Result, Ok, Err}
use Rattle.totem_names.specs.declared.conf.ConfId.{ConfId}
use Rattle.totem_names.specs.declared.message.MsgId.{MsgId}
use Rattle.totem_names.specs.declared.place.Place.{Place}
use Rattle.totem_evs.specs.declared.log.Log.{Log}
use Rattle.totem_evs.specs.Events.{IsEvent, IsBefore}
use Rattle.totem_evs.specs.Steps.{SendsAt, DeliversAt, SameClass}
use Rattle.totem_evs.specs.Certificates.{Numbering, number_at, IsBelow, Matches, Certified}
use Rattle.totem_outcome.specs.declared.certificate_fault.CertificateFault.{CertificateFault}
use Rattle.totem_outcome.specs.declared.certificate_fault.CertificateFault.TheVariants as faults

-- ---- what is required, and what breaks it

-- in each log the numbers are ascending
abbrev pub Rise : List Log → List Numbering → Type 0
Rise run lines = (e f : Place) → IsEvent run e → IsEvent run f → IsBefore e f → IsBelow lines e f

-- a later event of a log does not have a greater number than an earlier one
pub record DoesNotRise (run : List Log) (lines : List Numbering) : Type 0 where
  pub first : Place
  pub later : Place
  pub is_first : IsEvent run first
  pub is_later : IsEvent run later
  pub before : IsBefore first later
  pub not_below : IsBelow lines first later → ⊥

-- each send is numbered below the deliveries of its message
abbrev pub SendsAreBelow : List Log → List Numbering → Type 0
SendsAreBelow run lines = (e f : Place) (m : MsgId) (x : ConfId) → SendsAt run e m x → DeliversAt run f m → IsBelow lines e f

-- a send is not numbered below a delivery of its message
pub record SendIsLate (run : List Log) (lines : List Numbering) : Type 0 where
  pub send : Place
  pub delivery : Place
  pub message : MsgId
  pub conf : ConfId
  pub sends : SendsAt run send message conf
  pub delivers : DeliversAt run delivery message
  pub not_below : IsBelow lines send delivery → ⊥

-- events of one class have the same number
abbrev pub ClassesAreOne : List Log → List Numbering → Type 0
ClassesAreOne run lines = (e f : Place) → SameClass run e f → number_at lines e ≡ number_at lines f

-- two events of one class have different numbers
pub record TwinsAreApart (run : List Log) (lines : List Numbering) : Type 0 where
  pub one : Place
  pub other : Place
  pub class : SameClass run one other
  pub differ : number_at lines one ≢ number_at lines other

-- no other two events share a number
abbrev pub OthersAreApart : List Log → List Numbering → Type 0
OthersAreApart run lines = (e f : Place) → IsEvent run e → IsEvent run f → number_at lines e ≡ number_at lines f → (e ≡ f) ⊎ SameClass run e f

-- two different events that are not of one class share a number
pub record OthersShare (run : List Log) (lines : List Numbering) : Type 0 where
  pub one : Place
  pub other : Place
  pub is_one : IsEvent run one
  pub is_other : IsEvent run other
  pub shared : number_at lines one ≡ number_at lines other
  pub different : one ≢ other
  pub apart : SameClass run one other → ⊥

-- ---- the answer

-- the run is certified, or this is the first reason why it is not
abbrev pub Answers : List Log → List Numbering → Result (Unit {0}) CertificateFault → Type 0
Answers run lines (Ok u) = Certified run lines
Answers run lines (Err faults.Count) = Matches run lines → ⊥
Answers run lines (Err faults.NotRising) = Matches run lines × DoesNotRise run lines
Answers run lines (Err faults.SendNotBefore) = Matches run lines × Rise run lines × SendIsLate run lines
Answers run lines (Err faults.TwinsDiffer) = Matches run lines × Rise run lines × SendsAreBelow run lines × TwinsAreApart run lines
Answers run lines (Err faults.SharedPosition) = Matches run lines × Rise run lines × SendsAreBelow run lines × ClassesAreOne run lines × OthersShare run lines
