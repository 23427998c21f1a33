-- Entering the numbers of classes, event by event.
use Rattle.totem_judge_certificate.proofs.Common.{◌≡◌, ◌≢◌, ℕ, ◌+◌, ◌<◌, ◌≤◌, inl, inr, List, length, slice_get, Option, Some, None, IfSome, Bool, true, false, refl, sym, ◌∙◌, subst, arith, Place, Entry, Conf, Send, Deliver, Fail, Log, AreSendAndDelivery, Numbering, Matches, Rising, less_or_not, class_of, Stands, EachEvent, SomeEvent, EachPair, SomePair, IsIn, SendIsBelow, ClassIsSplit, SendIsNotBelow, ClassesAreOne, TwinsAreApart, least_of, Differs, IsLeastOf, IsEntered, IsKnown, IsNoted, IsTrueOf, KnowsTo, Knows, IsEarly, AreEarlyTo, class_split, classes_one}
use Rattle.totem_judge_certificate.specs.declared.class.Class.{Class}
use Rattle.totem_judge_certificate.specs.declared.class.Class.TheVariants.{Delivery}
use Rattle.totem_judge_certificate.specs.declared.spread.Spread.{Spread}
use Rattle.totem_judge_certificate.proofs.Naming.{class_shared, shares_class}
use Rattle.totem_judge_certificate.proofs.Entering.{some_pair, weaker_past, more_past, next_log, all_past}

-- ---- one number

-- the new least number is at most the number
at_most : (o : Option ℕ) (n l : ℕ) → IsLeastOf o n l → l ≤ n
at_most None n l h = omega arith
at_most (Some known) n l h = h.1

-- if there is only one number, it is the least one
alone : (o : Option ℕ) (n l : ℕ) → IsLeastOf o n l → (Differs o n → ⊥) → l ≡ n
alone None n l h one = h
alone (Some known) n l h one = elim (less_or_not known n) [
  | inl under ↦ absurd (one (λ same. omega arith))
  | inr (inl over) ↦ absurd (one (λ same. omega arith))
  | inr (inr same) ↦ elim h.2 [ inl is ↦ is ∙ same | inr is ↦ is ]
]

no_difference : (flag : Bool) (P : Type 0) → flag ≡ false → (P → flag ≡ true) → P → ⊥
no_difference flag P is so p = (let yes = so p in cc)

was_false : (was is : Bool) → is ≡ false → (was ≡ true → is ≡ true) → was ≡ false
was_false true is off so = (let on = so refl in cc)
was_false false is off so = refl

module _ (run : List Log) (lines : List Numbering) (old new : Spread) (k j : ℕ) (c : Class) (e : Place) (x : Entry) (n : ℕ) (here : IsIn run lines k j e x n) (is : class_of x ≡ Some c) (stands : Stands run lines e x n) (h : IsEntered old new c n) where
  -- what was known of an event is known
  still : (d : Class) (m : ℕ) → IsKnown old d m → IsKnown new d m
  still d m known = elim (h.others d) [
    | inr other ↦ record { least = known.least; is = other ∙ known.is; at_most = known.at_most; one = λ flag. known.one (was_false old.is_apart new.is_apart flag h.stays) }
    | inl same ↦
        let old_is : least_of old c ≡ Some known.least = rw same known.is in
        let of : IsLeastOf (Some known.least) n h.least = rw old_is at h.of in
        record {
          least = h.least;
          is = rw (← same) h.is;
          at_most = (let le = known.at_most in let under = of.0 in omega arith);
          one = λ flag.
              let was = known.one (was_false old.is_apart new.is_apart flag h.stays) in
              let apart : known.least ≢ n → new.is_apart ≡ true = λ ne. h.apart (rw old_is ne) in
              elim (less_or_not known.least n) [
                | inl under ↦ absurd (no_difference new.is_apart (known.least ≢ n) flag apart (λ e. omega arith))
                | inr (inl over) ↦ absurd (no_difference new.is_apart (known.least ≢ n) flag apart (λ e. omega arith))
                | inr (inr one) ↦ elim of.2 [ inl a ↦ a ∙ was | inr b ↦ b ∙ sym one ∙ was ]
              ];
        }
  ]

  -- the event itself is known
  itself : IsKnown new c n
  itself = record {
    least = h.least;
    is = h.is;
    at_most = at_most (least_of old c) n h.least h.of;
    one = λ flag. alone (least_of old c) n h.least h.of (no_difference new.is_apart (Differs (least_of old c) n) flag h.apart);
  }

  -- an event of the class whose number is the least one
  its_least : IsTrueOf run lines old → (o : Option ℕ) → least_of old c ≡ o → IsLeastOf o n h.least → SomeEvent (λ f y m. (m ≡ h.least) × (class_of y ≡ Some c)) run lines
  its_least so None at of = record { event = e; entry = x; number = n; stands = stands; holds = (sym of, is) }
  its_least so (Some l) at of = elim of.2 [
    | inl first ↦ let s = so.there c l at in record { event = s.event; entry = s.entry; number = s.number; stands = s.stands; holds = (s.holds.0 ∙ sym first, s.holds.1) }
    | inr second ↦ record { event = e; entry = x; number = n; stands = stands; holds = (sym second, is) }
  ]

  differing : IsTrueOf run lines old → (o : Option ℕ) → least_of old c ≡ o → Differs o n → TwinsAreApart run lines
  differing so None at apart = absurd apart
  differing so (Some l) at apart = let s = so.there c l at in class_split run lines (some_pair ClassIsSplit run lines s.event e s.entry x s.number n s.stands stands (shares_class s.entry x c s.holds.1 is, λ same. apart (sym s.holds.0 ∙ same)))

  still_true : IsTrueOf run lines old → IsTrueOf run lines new
  still_true so = record {
    there = λ d m at. elim (h.others d) [
      | inr other ↦ so.there d m (sym other ∙ at)
      | inl same ↦
          let s = its_least so (least_of old c) refl h.of in
          let least : h.least ≡ m = (let mine : least_of new c ≡ Some m = rw same at in let is_it = h.is in cc) in
          record { event = s.event; entry = s.entry; number = s.number; stands = s.stands; holds = (s.holds.0 ∙ least, rw (← same) s.holds.1) }
    ];
    apart = λ flag. elim (h.only flag) [
      | inl before ↦ so.apart before
      | inr differs ↦ differing so (least_of old c) refl differs
    ];
  }

  pub one_more : KnowsTo run lines old k j → KnowsTo run lines new k (j + 1)
  one_more so = record {
    true_of = still_true so.true_of;
    known = more_past (IsNoted new) run lines k j e x n here
        (λ d class. (let name : c ≡ d = (let both : Some c ≡ Some d = sym is ∙ class in cc) in subst (λ (z : Class). IsKnown new z n) name itself))
        (weaker_past (IsNoted old) (IsNoted new) run lines k j (λ f y m known d class. still d m (known d class)) so.known);
  }

-- an entry of no class adds nothing
pub none_more : (run : List Log) (lines : List Numbering) (spread : Spread) (k j : ℕ) (e : Place) (x : Entry) (n : ℕ) → IsIn run lines k j e x n → class_of x ≡ None → KnowsTo run lines spread k j → KnowsTo run lines spread k (j + 1)
none_more run lines spread k j e x n here none so = record { true_of = so.true_of; known = more_past (IsNoted spread) run lines k j e x n here (λ d class. absurd cc) so.known }

-- ---- logs

pub log_known : (run : List Log) (lines : List Numbering) (spread : Spread) (k j : ℕ) (log : Log) → slice_get run k ≡ Some log → length log.entries ≤ j → KnowsTo run lines spread k j → KnowsTo run lines spread (k + 1) 0
log_known run lines spread k j log at_log end so = record { true_of = so.true_of; known = next_log (IsNoted spread) run lines k j log at_log end so.known }

pub all_known : (run : List Log) (lines : List Numbering) (spread : Spread) (k : ℕ) → Rising run → Matches run lines → length run ≤ k → KnowsTo run lines spread k 0 → Knows run lines spread
all_known run lines spread k rising matches end so = record { true_of = so.true_of; known = all_past (IsNoted spread) run lines k rising matches end so.known }

-- ---- what is known at the end

pub classes_known : (run : List Log) (lines : List Numbering) (spread : Spread) → Rising run → Matches run lines → Knows run lines spread → spread.is_apart ≡ false → ClassesAreOne run lines
classes_known run lines spread rising matches so one = classes_one run lines rising matches (record {
  each = λ e x n at. record {
    each = λ f y m there class.
        let both = class_shared x y class in
        let first = so.known.each e x n at both.0 both.1 in
        let second = so.known.each f y m there both.0 both.2 in
        let same : first.least ≡ second.least = (let a = first.is in let b = second.is in cc) in
        sym (first.one one) ∙ same ∙ second.one one;
  };
})

-- ---- sends

module _ (run : List Log) (lines : List Numbering) (spread : Spread) (so : Knows run lines spread) where
  -- a send below the least number of the deliveries of its message is below each of them
  is_below : (e : Place) (x : Entry) (n : ℕ) → IsEarly spread x n → EachEvent (SendIsBelow e x n) run lines
  is_below e x n early = record { each = λ f y k stands pair. below x y early f k stands pair }
    where
      below : (x y : Entry) → IsEarly spread x n → (f : Place) (k : ℕ) → Stands run lines f y k → AreSendAndDelivery x y → n < k
      below (Send m c s) (Deliver o d) early f k stands pair =
          let known = so.known.each f (Deliver o d) k stands (Delivery m) (rw pair refl) in
          let lt : n < known.least = rw known.is at early in
          let le = known.at_most in
          omega arith
      below x y early f k stands pair = absurd pair

  pub all_below : (k : ℕ) → Rising run → Matches run lines → length run ≤ k → AreEarlyTo run lines spread k 0 → EachPair SendIsBelow run lines
  all_below k rising matches end early = record {
    each = λ e x n stands. is_below e x n ((all_past (λ e x n. IsEarly spread x n) run lines k rising matches end early).each e x n stands);
  }

  pub one_late : (e : Place) (x : Entry) (n : ℕ) → Stands run lines e x n → (IsEarly spread x n → ⊥) → SomePair SendIsNotBelow run lines
  one_late e x n stands late = record { event = e; entry = x; number = n; stands = stands; holds = go x late }
    where
      pair : (m : _) (c : _) (s : _) (y : Entry) → class_of y ≡ Some (Delivery m) → AreSendAndDelivery (Send m c s) y
      pair m c s (Deliver o d) of = (let h : Delivery o ≡ Delivery m = (let both : Some (Delivery o) ≡ Some (Delivery m) = of in cc) in cc)
      pair m c s y of = absurd cc

      least : (m : _) (c : _) (s : _) (o : Option ℕ) → least_of spread (Delivery m) ≡ o → (IfSome o (λ l. n < l) → ⊥) → SomeEvent (SendIsNotBelow e (Send m c s) n) run lines
      least m c s None at late = absurd (late tt)
      least m c s (Some l) at late =
          let h = so.true_of.there (Delivery m) l at in
          record { event = h.event; entry = h.entry; number = h.number; stands = h.stands; holds = (pair m c s h.entry h.holds.1, λ lt. late (rw h.holds.0 at lt)) }

      go : (x : Entry) → (IsEarly spread x n → ⊥) → SomeEvent (SendIsNotBelow e x n) run lines
      go (Send m c s) late = least m c s (least_of spread (Delivery m)) refl late
      go (Conf c ms) late = absurd (late tt)
      go (Deliver m c) late = absurd (late tt)
      go (Fail c) late = absurd (late tt)
