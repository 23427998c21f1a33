-- From one class to the next: what a walk shows about the events that it has passed.
use Rattle.totem_judge_certificate.proofs.Common.{◌≡◌, ℕ, ◌<◌, ◌≤◌, ◌⊎◌, inl, inr, List, length, Some, refl, sym, ◌∙◌, subst, arith, IsCertificate, Place, MsgId, Entry, Conf, Send, Deliver, Fail, Log, AreOfOneClass, AreSendAndDelivery, Numbering, Matches, Rising, class_of, class_barred_by, Stands, SomeEvent, ClassIsSplit, SendIsNotBelow, LinesRise, IsAhead, AreOne, IsLeastHead, IsPassed, AreClasses, IsCleanTo, IsClean, IsUnclean, sends_below, send_late, classes_one, class_split, others_apart}
use Rattle.totem_judge_certificate.specs.declared.class.Class.{Class}
use Rattle.totem_judge_certificate.specs.declared.class.Class.TheVariants.{Delivery}
use Rattle.totem_judge_certificate.specs.declared.walk.Head.{Head}
use Rattle.totem_judge_certificate.specs.declared.passed.Passed.{Passed}
use Rattle.totem_judge_certificate.specs.PassedClasses.{HasNone, Adds, IsNew, IsOld}
use Rattle.totem_judge_certificate.proofs.Entering.{some_pair}
use Rattle.totem_judge_certificate.proofs.Naming.{through, back, class_shared, shares_class, own_class_bars}
use Rattle.totem_judge_certificate.proofs.Walking.{ahead_stands, positive_number, head_is_above, passed_or_next, one_ahead}

module _ (run : List Log) (lines : List Numbering) (last k : ℕ) (e : Place) (x : Entry) where
  -- e is the next event, with the number k: what has at most this number has been passed, or is one event with e
  pub record IsNext : Type 0 where
    pub stands : Stands run lines e x k
    pub above : last < k
    pub each : (f : Place) (y : Entry) (n : ℕ) → Stands run lines f y n → n ≤ k → (n ≤ last) ⊎ ((n ≡ k) × ((f ≡ e) ⊎ AreOfOneClass y x))

pub is_next : (run : List Log) (lines : List Numbering) (passed : List ℕ) (last : ℕ) (head : Head) (e : Place) (x : Entry) → Rising run → Matches run lines → LinesRise lines (length lines) → length passed ≡ length lines → IsPassed lines passed last
    → IsLeastHead lines passed (length lines) head → IsAhead run lines passed head.log e x head.number → AreOne run lines passed head.log x head.number → IsNext run lines last head.number e x
is_next run lines passed last head e x rising matches rise many h least ahead one = record {
  stands = ahead_stands run lines passed head.log e x head.number rising matches ahead;
  above = head_is_above lines passed last rise h head least;
  each = λ f y n at le. elim (passed_or_next lines passed last rise h head least run rising matches many f y n at le) [
    | inl before ↦ inl before
    | inr (same, i, within, next) ↦ (let there : IsAhead run lines passed i f y head.number = rw same at next in inr (same, of_one i f y there (one.each i within f y there)))
  ];
}
  where
    of_one : (i : ℕ) (f : Place) (y : Entry) → IsAhead run lines passed i f y head.number → (i ≡ head.log) ⊎ AreOfOneClass y x → (f ≡ e) ⊎ AreOfOneClass y x
    of_one i f y next (inl same) = inl ((one_ahead run lines passed head.log f e y x head.number head.number (rw same at next) ahead).0)
    of_one i f y next (inr class) = inr class

-- the entry at a place is one
one_entry : (run : List Log) (lines : List Numbering) (e f : Place) (x y : Entry) (n m : ℕ) → Stands run lines e x n → Stands run lines f y m → f ≡ e → y ≡ x
one_entry run lines e f x y n m at_e at_f same = (let at : Stands run lines e y m = subst (λ (p : Place). Stands run lines p y m) same at_f in let h = sym at.entry ∙ at_e.entry in cc)

module _ (run : List Log) (lines : List Numbering) (last k : ℕ) (e : Place) (x : Entry) (next : IsNext run lines last k e x) (classes : Passed) (known : AreClasses run lines classes last) where
  -- what is one event with e is in the class of e, if it is in one
  with_it : (f : Place) (y : Entry) (c : Class) → Stands run lines f y k → class_of y ≡ Some c → (f ≡ e) ⊎ AreOfOneClass y x → class_of x ≡ Some c
  with_it f y c at is (inl same) = subst (λ (w : Entry). class_of w ≡ Some c) (one_entry run lines e f x y k k next.stands at same) is
  with_it f y c at is (inr class) = let both = class_shared y x class in both.2 ∙ (let first = sym both.1 ∙ is in cc)

  -- if e is new, nothing of the class that it bars was passed
  not_passed : IsNew classes x → (f : Place) (y : Entry) (c : Class) (n : ℕ) → class_barred_by x ≡ Some c → Stands run lines f y n → n ≤ last → class_of y ≡ Some c → ⊥
  not_passed new f y c n barred at le is = new.never c barred (known.known c f y n at le is)

  -- a send with e's number is e
  sends_alone : (f : Place) (y z : Entry) → Stands run lines f y k → AreSendAndDelivery y z → (f ≡ e) ⊎ AreOfOneClass y x → y ≡ x
  sends_alone f y z at pair (inl same) = one_entry run lines e f x y k k next.stands at same
  sends_alone f (Send m c s) z at pair (inr class) = absurd class
  sends_alone f y z at pair (inr class) = absurd pair

  -- of a send and a delivery of its message, the send bars the class of the other
  pair_bars : (y z : Entry) → AreSendAndDelivery y z → (c : Class) × (class_barred_by y ≡ Some c) × (class_of z ≡ Some c)
  pair_bars (Send m a s) (Deliver n b) pair = (Delivery m, refl, rw pair refl)
  pair_bars y z pair = absurd pair

  -- a send has no class
  send_has_none : (y z : Entry) (c : Class) → AreSendAndDelivery y z → class_of y ≡ Some c → ⊥
  send_has_none (Send m a s) z c pair is = absurd cc
  send_has_none y z c pair is = absurd pair

  pub clean_more : IsNew classes x → IsCleanTo run lines last → IsCleanTo run lines k
  clean_more new old = record {
    sends = λ f g y z n m at_f at_g le_n le_m pair. elim (next.each f y n at_f le_n) [
      | inl first ↦ elim (next.each g z m at_g le_m) [
        | inl second ↦ old.sends f g y z n m at_f at_g first second pair
        | inr (second, rest) ↦ (let up = next.above in omega arith)
      ]
      | inr (first, rest) ↦
          let at : Stands run lines f y k = rw first at at_f in
          let bars = pair_bars y z pair in
          let is : y ≡ x = sends_alone f y z at pair rest in
          let barred : class_barred_by x ≡ Some bars.0 = subst (λ (w : Entry). class_barred_by w ≡ Some bars.0) is bars.1 in
          elim (next.each g z m at_g le_m) [
            | inl second ↦ absurd (not_passed new g z bars.0 m barred at_g second bars.2)
            | inr (second, others) ↦
                let there : Stands run lines g z k = rw second at at_g in
                absurd (send_has_none y z bars.0 pair (subst (λ (w : Entry). class_of w ≡ Some bars.0) (sym is) (with_it g z bars.0 there bars.2 others)))
          ]
    ];
    classes = λ f g y z n m at_f at_g le_n le_m class. let both = class_shared y z class in elim (next.each f y n at_f le_n) [
      | inl first ↦ elim (next.each g z m at_g le_m) [
        | inl second ↦ old.classes f g y z n m at_f at_g first second class
        | inr (second, rest) ↦
            let there : Stands run lines g z k = rw second at at_g in
            let mine = with_it g z both.0 there both.2 rest in
            absurd (not_passed new f y both.0 n (own_class_bars x both.0 mine) at_f first both.1)
      ]
      | inr (first, rest) ↦
          let there : Stands run lines f y k = rw first at at_f in
          let mine = with_it f y both.0 there both.1 rest in
          elim (next.each g z m at_g le_m) [
            | inl second ↦ absurd (not_passed new g z both.0 m (own_class_bars x both.0 mine) at_g second both.2)
            | inr (second, others) ↦ first ∙ sym second
          ]
    ];
    others = λ f g y z n at_f at_g le. elim (next.each f y n at_f le) [
      | inl first ↦ old.others f g y z n at_f at_g first
      | inr (first, rest) ↦ elim (next.each g z n at_g le) [
        | inl second ↦ old.others f g y z n at_f at_g second
        | inr (second, others) ↦ together f g y z n at_f at_g rest others
      ]
    ];
  }
    where
      together : (f g : Place) (y z : Entry) (n : ℕ) → Stands run lines f y n → Stands run lines g z n → (f ≡ e) ⊎ AreOfOneClass y x → (g ≡ e) ⊎ AreOfOneClass z x → (f ≡ g) ⊎ AreOfOneClass y z
      together f g y z n at_f at_g (inl one) (inl two) = inl (one ∙ sym two)
      together f g y z n at_f at_g (inl one) (inr two) = inr (subst (λ (w : Entry). AreOfOneClass w z) (sym (one_entry run lines e f x y k n next.stands at_f one)) (back z x two))
      together f g y z n at_f at_g (inr one) (inl two) = inr (subst (λ (w : Entry). AreOfOneClass y w) (sym (one_entry run lines e g x z k n next.stands at_g two)) one)
      together f g y z n at_f at_g (inr one) (inr two) = inr (through y z x one two)

  pub classes_more : (new : Passed) → Adds classes new x → AreClasses run lines new k
  classes_more new adds = record {
    known = λ c f y n at le is. elim (next.each f y n at le) [
      | inl before ↦ adds.keeps c (known.known c f y n at before is)
      | inr (same, rest) ↦ adds.adds c (with_it f y c (rw same at at) is rest)
    ];
    there = λ c has_it. elim (adds.only c has_it) [
      | inl had ↦ let s = known.there c had in record { event = s.event; entry = s.entry; number = s.number; stands = s.stands; holds = ((let up = next.above in let le = s.holds.0 in omega arith), s.holds.1) }
      | inr mine ↦ record { event = e; entry = x; number = k; stands = next.stands; holds = (omega arith, mine) }
    ];
  }

-- if e is too late, a class is split, or a send is not below a delivery
pub too_late : (run : List Log) (lines : List Numbering) (last k : ℕ) (e : Place) (x : Entry) (classes : Passed) → Stands run lines e x k → last < k → AreClasses run lines classes last → IsOld classes x → IsUnclean run lines
too_late run lines last k e x classes stands above known old = late x refl old.barred
  where
    had : SomeEvent (λ e x n. (n ≤ last) × (class_of x ≡ Some old.class)) run lines
    had = known.there old.class old.passed

    split : class_of x ≡ Some old.class → IsUnclean run lines
    split mine = inr (inl (class_split run lines (some_pair ClassIsSplit run lines had.event e had.entry x had.number k had.stands stands (shares_class had.entry x old.class had.holds.1 mine, λ same. (let up = above in let le = had.holds.0 in omega arith)))))

    sent : (m : MsgId) (y : Entry) → Some (Delivery m) ≡ Some old.class → class_of y ≡ Some old.class → (d : _) × (y ≡ Deliver m d)
    sent m (Deliver n d) barred is = (d, (let both : Some (Delivery m) ≡ Some (Delivery n) = barred ∙ sym is in cc))
    sent m y barred is = absurd cc

    late : (y : Entry) → x ≡ y → class_barred_by y ≡ Some old.class → IsUnclean run lines
    late (Conf c ms) same barred = split (subst (λ (w : Entry). class_of w ≡ Some old.class) (sym same) barred)
    late (Deliver m c) same barred = split (subst (λ (w : Entry). class_of w ≡ Some old.class) (sym same) barred)
    late (Fail c) same barred = absurd cc
    late (Send m c s) same barred =
        let delivery = sent m had.entry barred had.holds.1 in
        let pair = subst (λ (w : Entry). AreSendAndDelivery w had.entry) (sym same) (subst (λ (w : Entry). AreSendAndDelivery (Send m c s) w) (sym delivery.1) refl) in
        inl (send_late run lines (some_pair SendIsNotBelow run lines e had.event x had.entry k had.number stands had.stands (pair, λ lt. (let up = above in let le = had.holds.0 in omega arith))))

-- at the end all events were passed
pub all_clean : (run : List Log) (lines : List Numbering) (last : ℕ) → Rising run → Matches run lines → ((f : Place) (y : Entry) (n : ℕ) → Stands run lines f y n → n ≤ last) → IsCleanTo run lines last → IsClean run lines
all_clean run lines last rising matches all clean = record {
  sends = sends_below run lines rising matches (record { each = λ e x n at. record { each = λ f y m there pair. clean.sends e f x y n m at there (all e x n at) (all f y m there) pair } });
  classes = classes_one run lines rising matches (record { each = λ e x n at. record { each = λ f y m there class. clean.classes e f x y n m at there (all e x n at) (all f y m there) class } });
  others = others_apart run lines rising matches (record { each = λ e x n at. record { each = λ f y m there same. clean.others e f x y n at (rw (← same) at there) (all e x n at) } });
}

-- ---- before the first number

pub start_classes : (run : List Log) (lines : List Numbering) (classes : Passed) → Rising run → Matches run lines → IsCertificate lines → HasNone classes → AreClasses run lines classes 0
start_classes run lines classes rising matches is empty = record {
  known = λ c e x n at le of. absurd (let up = positive_number run lines e x n rising matches is at in omega arith);
  there = λ c has_it. absurd (empty.never c has_it);
}

pub start_clean : (run : List Log) (lines : List Numbering) → Rising run → Matches run lines → IsCertificate lines → IsCleanTo run lines 0
start_clean run lines rising matches is = record {
  sends = λ e f x y n m at there le le' pair. absurd (let up = positive_number run lines e x n rising matches is at in omega arith);
  classes = λ e f x y n m at there le le' class. absurd (let up = positive_number run lines e x n rising matches is at in omega arith);
  others = λ e f x y n at there le. absurd (let up = positive_number run lines e x n rising matches is at in omega arith);
}
