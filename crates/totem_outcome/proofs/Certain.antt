-- From what the loops found to the result.
use Rattle.totem_outcome.proofs.Common.{◌≡◌, ℕ, ◌+◌, ◌<◌, inl, inr, List, length, slice_get, Some, refl, sym, ◌∙◌, ap, arith, slice_get_within, Place, Log, entry_at, IsEvent, Numbering, numbers_of, IsBelow, Matches, Certified, Rise, DoesNotRise, SendsAreBelow, SendIsLate, ClassesAreOne, TwinsAreApart, OthersAreApart, OthersShare, Rising}
use Rattle.totem_evs.specs.declared.entry.Entry.{Entry}
use Rattle.totem_evs.specs.declared.entry.Entry.TheVariants.{Conf, Send, Deliver}
use Rattle.totem_evs.specs.Steps.{SameClass}
use Rattle.totem_certificate.specs.Keeping.{IsCertificate}
use Rattle.totem_outcome.specs.Numbered.{Stands, place}
use Rattle.totem_outcome.specs.Each.{EachPair, SomePair}
use Rattle.totem_evs.specs.Classes.{AreOfOneClass, AreSendAndDelivery}
use Rattle.totem_outcome.specs.Kinds.{SendIsBelow, SendIsNotBelow, ClassIsOne, ClassIsSplit, NumberIsOwn, NumberIsShared}
use Rattle.totem_outcome.specs.Rising.{LinesRise, LineFalls}
use Rattle.totem_outcome.proofs.Matching.{log_at, matches_at, numbers_of_at}
use Rattle.totem_outcome.proofs.Standing.{at_index, stands_at, locate, has_number}

-- ---- numbers of events

below_is : (run : List Log) (lines : List Numbering) (e f : Place) (x y : Entry) (n m : ℕ) → Stands run lines e x n → Stands run lines f y m → n < m → IsBelow lines e f
below_is run lines e f x y n m at_e at_f lt = (n, m, at_e.number, at_f.number, lt)

not_below : (run : List Log) (lines : List Numbering) (e f : Place) (x y : Entry) (n m : ℕ) → Stands run lines e x n → Stands run lines f y m → (n < m → ⊥) → IsBelow lines e f → ⊥
not_below run lines e f x y n m at_e at_f never (i, j, is_i, is_j, lt) =
    let first : i ≡ n = (let h = sym is_i ∙ at_e.number in cc) in
    let second : j ≡ m = (let h = sym is_j ∙ at_f.number in cc) in
    never (rw (first, second) at lt)

-- ---- ascending numbers

pub all_rise : (run : List Log) (lines : List Numbering) → Rising run → Matches run lines → LinesRise lines (length lines) → Rise run lines
all_rise run lines rising matches h e f (x, at_e) (y, at_f) (same, lt) =
    let n = has_number run lines e x rising matches at_e in
    let m = has_number run lines f y rising matches at_f in
    let a = locate run lines e x n.0 rising matches n.1 in
    let b = locate run lines f y m.0 rising matches m.1 in
    let procs : b.is.log.proc ≡ a.is.log.proc = ap (λ (g : Place). g.proc) b.is.place_is ∙ sym same ∙ sym (ap (λ (g : Place). g.proc) a.is.place_is) in
    let numbers : b.is.line.numbers ≡ a.is.line.numbers = sym (numbers_of_at run lines b.index b.is.log b.is.line rising matches b.is.log_is b.is.line_is) ∙ ap (λ (p : ℕ). numbers_of lines p) procs ∙ numbers_of_at run lines a.index a.is.log a.is.line rising matches a.is.log_is a.is.line_is in
    let here : slice_get a.is.line.numbers b.at ≡ Some m.0 = ap (λ (ns : List ℕ). slice_get ns b.at) (sym numbers) ∙ b.is.number_is in
    let under : a.at < b.at = omega (arith, lt, ap (λ (g : Place). g.at) a.is.place_is, ap (λ (g : Place). g.at) b.is.place_is) in
    below_is run lines e f x y n.0 m.0 n.1 m.1 (h.each a.index a.is.line a.at b.at n.0 m.0 (slice_get_within lines a.index a.is.line a.is.line_is) a.is.line_is under a.is.number_is here)

pub one_falls : (run : List Log) (lines : List Numbering) → Rising run → Matches run lines → LineFalls lines → DoesNotRise run lines
one_falls run lines rising matches h =
    let found = log_at run lines h.index h.line matches h.line_is in
    let both = matches_at run lines h.index found.0 h.line matches found.1 h.line_is in
    let last = slice_get_within h.line.numbers (h.falls.at + 1) h.falls.next h.falls.next_is in
    let x = at_index found.0.entries h.falls.at (omega (arith, both.1)) in
    let y = at_index found.0.entries (h.falls.at + 1) (omega (arith, both.1)) in
    let at_x = stands_at run lines h.index h.falls.at found.0 h.line x.0 h.falls.number rising matches found.1 h.line_is x.1 h.falls.number_is in
    let at_y = stands_at run lines h.index (h.falls.at + 1) found.0 h.line y.0 h.falls.next rising matches found.1 h.line_is y.1 h.falls.next_is in
    record {
      first = place found.0.proc h.falls.at;
      later = place found.0.proc (h.falls.at + 1);
      is_first = (x.0, at_x.entry);
      is_later = (y.0, at_y.entry);
      before = (refl, omega arith);
      not_below = not_below run lines (place found.0.proc h.falls.at) (place found.0.proc (h.falls.at + 1)) x.0 y.0 h.falls.number h.falls.next at_x at_y (λ lt. omega (arith, lt, h.falls.falls));
    }

-- ---- sends

pub sends_below : (run : List Log) (lines : List Numbering) → Rising run → Matches run lines → EachPair SendIsBelow run lines → SendsAreBelow run lines
sends_below run lines rising matches h e f m x (service, at_e) (y, at_f) =
    let i = has_number run lines e (Send m x service) rising matches at_e in
    let j = has_number run lines f (Deliver m y) rising matches at_f in
    below_is run lines e f (Send m x service) (Deliver m y) i.0 j.0 i.1 j.1 ((h.each e (Send m x service) i.0 i.1).each f (Deliver m y) j.0 j.1 refl)

late : (run : List Log) (lines : List Numbering) (e f : Place) (x y : Entry) (n m : ℕ) → Stands run lines e x n → Stands run lines f y m → AreSendAndDelivery x y → (n < m → ⊥) → SendIsLate run lines
late run lines e f (Send m c service) (Deliver k d) i j at_e at_f same never = record {
  send = e;
  delivery = f;
  message = m;
  conf = c;
  sends = (service, at_e.entry);
  delivers = (d, rw same at_f.entry);
  not_below = not_below run lines e f (Send m c service) (Deliver k d) i j at_e at_f never;
}
late run lines e f x y i j at_e at_f same never = absurd same

pub send_late : (run : List Log) (lines : List Numbering) → SomePair SendIsNotBelow run lines → SendIsLate run lines
send_late run lines h = late run lines h.event h.holds.event h.entry h.holds.entry h.number h.holds.number h.stands h.holds.stands h.holds.holds.0 h.holds.holds.1

-- ---- classes

pub one_class : (run : List Log) (e f : Place) (x y : Entry) → entry_at run e ≡ Some x → entry_at run f ≡ Some y → AreOfOneClass x y → SameClass run e f
one_class run e f (Conf c ms) (Conf d ns) at_e at_f same = inl (c, (ms, at_e), (ns, rw same at_f))
one_class run e f (Deliver m x) (Deliver n y) at_e at_f same = inr (m, (x, at_e), (y, rw same at_f))
one_class run e f x y at_e at_f same = absurd same

pub is_class : (run : List Log) (e f : Place) (x y : Entry) → entry_at run e ≡ Some x → entry_at run f ≡ Some y → SameClass run e f → AreOfOneClass x y
is_class run e f x y at_e at_f (inl (c, (ms, is_e), (ns, is_f))) =
    let first : Conf c ms ≡ x = (let h = sym is_e ∙ at_e in cc) in
    let second : Conf c ns ≡ y = (let h = sym is_f ∙ at_f in cc) in
    rw (← first, ← second) refl
is_class run e f x y at_e at_f (inr (m, (c, is_e), (d, is_f))) =
    let first : Deliver m c ≡ x = (let h = sym is_e ∙ at_e in cc) in
    let second : Deliver m d ≡ y = (let h = sym is_f ∙ at_f in cc) in
    rw (← first, ← second) refl

-- events of a class are somewhere in the run
class_events : (run : List Log) (e f : Place) → SameClass run e f → IsEvent run e × IsEvent run f
class_events run e f (inl (c, (ms, is_e), (ns, is_f))) = ((Conf c ms, is_e), (Conf c ns, is_f))
class_events run e f (inr (m, (c, is_e), (d, is_f))) = ((Deliver m c, is_e), (Deliver m d, is_f))

pub classes_one : (run : List Log) (lines : List Numbering) → Rising run → Matches run lines → EachPair ClassIsOne run lines → ClassesAreOne run lines
classes_one run lines rising matches h e f class =
    let both = class_events run e f class in
    let n = has_number run lines e both.0.0 rising matches both.0.1 in
    let m = has_number run lines f both.1.0 rising matches both.1.1 in
    let same : n.0 ≡ m.0 = (h.each e both.0.0 n.0 n.1).each f both.1.0 m.0 m.1 (is_class run e f both.0.0 both.1.0 both.0.1 both.1.1 class) in
    n.1.number ∙ ap (λ (k : ℕ). Some k) same ∙ sym m.1.number

pub class_split : (run : List Log) (lines : List Numbering) → SomePair ClassIsSplit run lines → TwinsAreApart run lines
class_split run lines h = record {
  one = h.event;
  other = h.holds.event;
  class = one_class run h.event h.holds.event h.entry h.holds.entry h.stands.entry h.holds.stands.entry h.holds.holds.0;
  differ = λ same. h.holds.holds.1 (let k = sym h.stands.number ∙ same ∙ h.holds.stands.number in cc);
}

-- ---- shared numbers

pub others_apart : (run : List Log) (lines : List Numbering) → Rising run → Matches run lines → EachPair NumberIsOwn run lines → OthersAreApart run lines
others_apart run lines rising matches h e f (x, at_e) (y, at_f) same =
    let n = has_number run lines e x rising matches at_e in
    let m = has_number run lines f y rising matches at_f in
    let one : n.0 ≡ m.0 = (let k = sym n.1.number ∙ same ∙ m.1.number in cc) in
    elim ((h.each e x n.0 n.1).each f y m.0 m.1 one) [
      | inl place ↦ inl place
      | inr class ↦ inr (one_class run e f x y at_e at_f class)
    ]

pub others_share : (run : List Log) (lines : List Numbering) → SomePair NumberIsShared run lines → OthersShare run lines
others_share run lines h = record {
  one = h.event;
  other = h.holds.event;
  is_one = (h.entry, h.stands.entry);
  is_other = (h.holds.entry, h.holds.stands.entry);
  shared = h.stands.number ∙ ap (λ (k : ℕ). Some k) h.holds.holds.0 ∙ sym h.holds.stands.number;
  different = h.holds.holds.1;
  apart = λ class. h.holds.holds.2 (is_class run h.event h.holds.event h.entry h.holds.entry h.stands.entry h.holds.stands.entry class);
}

-- ---- all of them

pub is_certified : (run : List Log) (lines : List Numbering) → IsCertificate lines → Matches run lines → Rise run lines → SendsAreBelow run lines → ClassesAreOne run lines → OthersAreApart run lines → Certified run lines
is_certified run lines is matches rise sends classes others = record {
  matches = matches;
  positive = λ k d within. λ j c inside. ((is.each k d within).numbers.each j c inside).positive;
  rises = rise;
  sent = sends;
  shared = classes;
  apart = others;
}
