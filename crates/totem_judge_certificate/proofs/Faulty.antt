-- The first fault of numbers that do not order a run.
use Rattle.totem_judge_certificate.proofs.Common.{◌≡◌, inl, inr, List, Result, Ok, Err, true, false, OnErr, Log, Numbering, Matches, Certified, Rising, IsCertificate, EachPair, SendIsBelow, Answers, Rise, SendsAreBelow, ClassesAreOne, TwinsAreApart, OthersShare, Knows, IsClean, IsUnclean, NamesFault, sends_below, is_certified}
use Rattle.totem_outcome.specs.declared.certificate_fault.CertificateFault.{CertificateFault}
use Rattle.totem_outcome.specs.declared.certificate_fault.CertificateFault.TheVariants as faults
use Rattle.totem_judge_certificate.specs.declared.spread.Spread.{Spread}
use Rattle.totem_judge_certificate.proofs.Spreading.{classes_known}

pub names_twins : (run : List Log) (lines : List Numbering) (spread : Spread) → Rising run → Matches run lines → Knows run lines spread → EachPair SendIsBelow run lines → spread.is_apart ≡ true → SendsAreBelow run lines × TwinsAreApart run lines
names_twins run lines spread rising matches so below apart = (sends_below run lines rising matches below, so.true_of.apart apart)

pub names_shared : (run : List Log) (lines : List Numbering) (spread : Spread) → Rising run → Matches run lines → Knows run lines spread → IsUnclean run lines → EachPair SendIsBelow run lines → spread.is_apart ≡ false
    → SendsAreBelow run lines × ClassesAreOne run lines × OthersShare run lines
names_shared run lines spread rising matches so unclean below one =
    let sends = sends_below run lines rising matches below in
    let classes = classes_known run lines spread rising matches so one in
    (sends, classes, shared sends classes unclean)
  where
    shared : SendsAreBelow run lines → ClassesAreOne run lines → IsUnclean run lines → OthersShare run lines
    shared sends classes (inl late) = absurd (late.not_below (sends late.send late.delivery late.message late.conf late.sends late.delivers))
    shared sends classes (inr (inl split)) = absurd (split.differ (classes split.one split.other split.class))
    shared sends classes (inr (inr share)) = share

-- the numbers certify the run if they order it
pub ordered : (run : List Log) (lines : List Numbering) → IsCertificate lines → Matches run lines → Rise run lines → IsClean run lines → Certified run lines
ordered run lines is matches rise clean = is_certified run lines is matches rise clean.sends clean.classes clean.others

-- the first fault, with what was tested before
pub named : (run : List Log) (lines : List Numbering) (f : CertificateFault) → Matches run lines → Rise run lines → NamesFault run lines f → Answers run lines (Err f)
named run lines faults.Count matches rise h = absurd h
named run lines faults.NotRising matches rise h = absurd h
named run lines faults.SendNotBefore matches rise h = (matches, rise, h)
named run lines faults.TwinsDiffer matches rise h = (matches, rise, h.0, h.1)
named run lines faults.SharedPosition matches rise h = (matches, rise, h.0, h.1, h.2)

-- if memory was refused, what takes none had been tested
pub refused : {T E : Type 0} → (run : List Log) (lines : List Numbering) (r : Result T E) → Matches run lines → Rise run lines → OnErr r (Matches run lines × Rise run lines)
refused run lines (Ok x) matches rise = tt
refused run lines (Err e) matches rise = (matches, rise)
