-- The numbers of each class: the least one, and whether there is more than one (docs/SPECIFICATIONS.md, "The checker").
use Rattle.std.specs.Prelude.{◌≡◌, ◌≢◌, ◌⊎◌, ℕ, ◌<◌, ◌≤◌, List, Option, Some, None, IfSome, true, false}
use Rattle.std.specs.BTreeMap as tree
use Rattle.totem_names.specs.declared.place.Place.{Place}
use Rattle.totem_evs.specs.declared.entry.Entry.{Entry}
use Rattle.totem_evs.specs.declared.entry.Entry.TheVariants.{Conf, Send, Deliver, Fail}
use Rattle.totem_evs.specs.declared.log.Log.{Log}
use Rattle.totem_evs.specs.Certificates.{Numbering}
use Rattle.totem_judge_certificate.specs.declared.class.Class.{Class}
use Rattle.totem_judge_certificate.specs.declared.class.Class.TheVariants.{Delivery}
use Rattle.totem_judge_certificate.specs.declared.spread.Spread.{Spread}
use Rattle.totem_judge_certificate.specs.ClassOf.{class_of, class_order}
use Rattle.totem_outcome.specs.Each.{EachEvent, SomeEvent, EachPast}
use Rattle.totem_outcome.specs.Certifying.{TwinsAreApart}

-- the least number of a class, if it has any
abbrev pub least_of : Spread → Class → Option ℕ
least_of spread c = tree.get class_order spread.least c

-- ---- one number

-- a number other than the known one
abbrev pub Differs : Option ℕ → ℕ → Type 0
Differs None n = ⊥
Differs (Some known) n = known ≢ n

-- the lesser of a number and the known one
abbrev pub IsLeastOf : Option ℕ → ℕ → ℕ → Type 0
IsLeastOf None n least = least ≡ n
IsLeastOf (Some known) n least = (least ≤ known) × (least ≤ n) × ((least ≡ known) ⊎ (least ≡ n))

-- the number n of the class c was entered
pub record IsEntered (old new : Spread) (c : Class) (n : ℕ) : Type 0 where
  pub least : ℕ
  pub is : least_of new c ≡ Some least
  pub of : IsLeastOf (least_of old c) n least
  pub others : (d : Class) → (c ≡ d) ⊎ (least_of new d ≡ least_of old d)
  pub stays : old.is_apart ≡ true → new.is_apart ≡ true
  pub apart : Differs (least_of old c) n → new.is_apart ≡ true
  pub only : new.is_apart ≡ true → (old.is_apart ≡ true) ⊎ Differs (least_of old c) n

-- ---- all that is known

-- an event of the class c with the number n is known
pub record IsKnown (spread : Spread) (c : Class) (n : ℕ) : Type 0 where
  pub least : ℕ
  pub is : least_of spread c ≡ Some least
  pub at_most : least ≤ n
  pub one : spread.is_apart ≡ false → least ≡ n

-- an event is known, if it is of a class
abbrev pub IsNoted : Spread → Place → Entry → ℕ → Type 0
IsNoted spread e x n = (c : Class) → class_of x ≡ Some c → IsKnown spread c n

-- what is known is true
pub record IsTrueOf (run : List Log) (lines : List Numbering) (spread : Spread) : Type 0 where
  pub there : (c : Class) (m : ℕ) → least_of spread c ≡ Some m → SomeEvent (λ e x n. (n ≡ m) × (class_of x ≡ Some c)) run lines
  pub apart : spread.is_apart ≡ true → TwinsAreApart run lines

-- all events of the logs at indices below k are known, and the first j of the log at k
pub record KnowsTo (run : List Log) (lines : List Numbering) (spread : Spread) (k j : ℕ) : Type 0 where
  pub true_of : IsTrueOf run lines spread
  pub known : EachPast (IsNoted spread) run lines k j

-- all events are known
pub record Knows (run : List Log) (lines : List Numbering) (spread : Spread) : Type 0 where
  pub true_of : IsTrueOf run lines spread
  pub known : EachEvent (IsNoted spread) run lines

-- ---- sends

-- the entry is no send, or its number is below the least one of the deliveries of its message
abbrev pub IsEarly : Spread → Entry → ℕ → Type 0
IsEarly spread (Conf x members) n = Unit {0}
IsEarly spread (Send m x service) n = IfSome (least_of spread (Delivery m)) (λ least. n < least)
IsEarly spread (Deliver m x) n = Unit {0}
IsEarly spread (Fail x) n = Unit {0}

-- this holds for all events of the logs at indices below k, and for the first j of the log at k
abbrev pub AreEarlyTo : List Log → List Numbering → Spread → ℕ → ℕ → Type 0
AreEarlyTo run lines spread k j = EachPast (λ e x n. IsEarly spread x n) run lines k j
