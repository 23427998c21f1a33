-- What holds of the numbers given so far, and after one more class.
use Rattle.totem_cert.proofs.Common.{◌≡◌, ℕ, ◌+◌, ◌<◌, ◌≤◌, ◌⊎◌, inl, inr, List, Some, sym, ◌∙◌, arith, common_steps, eq-or-lt_of_le, Place, Log, IsEvent, Numbering, number_at, InClass, IsNumberedBelow, IsReadyAt, Placed, placed, IsNumbered, NotBelow, Sound, IsReady, IsGiven, IsNumberedSoFar}
use Rattle.totem_cert.proofs.LogHeads.{none_unless}
use Rattle.totem_cert.proofs.Classmates.{class_sym, class_trans, class_self, event_of, waits_same, at_most_same}

module _ (run : List Log) (old new : List Numbering) (n : ℕ) (sound : Sound run old n) (given : IsGiven run old new (n + 1)) where
  unnumbered : (x : Place) (k : ℕ) → InClass run given.event x → number_at old x ≡ Some k → ⊥
  unnumbered x k in_class at = let there = sound.shared x given.event k at (class_sym run given.event x in_class) in let none = given.next.ready.unnumbered in cc

  kept : (x : Place) (k : ℕ) → number_at old x ≡ Some k → number_at new x ≡ Some k
  kept x k at = elim (given.each x) [ inl (in_class, is) ↦ absurd (unnumbered x k in_class at) | inr is ↦ is ∙ at ]

  was : (x : Place) (k : ℕ) → number_at new x ≡ Some k → (InClass run given.event x × (k ≡ n + 1)) ⊎ (number_at old x ≡ Some k)
  was x k at = elim (given.each x) [ inl (in_class, is) ↦ inl (in_class, (let same : Some k ≡ Some (n + 1) = sym at ∙ is in cc)) | inr is ↦ inr (sym is ∙ at) ]

  -- a number below an old one was given before too
  below_was : (x : Place) (k : ℕ) → k ≤ n + 1 → IsNumberedBelow new x k → IsNumberedBelow old x k
  below_was x k le h = grind (arith, common_steps)

  waits_kept : (x : Place) (k : ℕ) → IsReadyAt run old x k → IsReadyAt run new x k
  waits_kept x k h = record { each = λ g waits. (let b = h.each g waits in record { number = b.number; given = kept g b.number b.given; below = b.below }) }

  waits_was : (x : Place) (k : ℕ) → k ≤ n + 1 → IsReadyAt run new x k → IsReadyAt run old x k
  waits_was x k le h = record { each = λ g waits. below_was g k le (h.each g waits) }

  -- what the new class waits for has a number already
  new_waits : (x : Place) → InClass run given.event x → IsReadyAt run new x (n + 1)
  new_waits x in_class = record { each = λ g waits. go g (given.next.ready.waits g (waits_same run given.event x g in_class waits)) }
    where
      go : (g : Place) → IsNumbered old g → IsNumberedBelow new g (n + 1)
      go g h = record { number = h.number; given = kept g h.number h.given; below = (let le = sound.few g h.number h.given in omega arith) }

  new_placed : (x : Place) → InClass run given.event x → Placed run x
  new_placed x in_class = placed (λ g waits. (let h = given.next.ready.waits g (waits_same run given.event x g in_class waits) in sound.placed g h.number h.given))

  -- a class that could have got the new number was ready
  was_ready : (f : Place) → IsEvent run f → IsReadyAt run new f (n + 1) → NotBelow new f (n + 1) → IsReady run old f
  was_ready f event waits none = record {
    event = event;
    unnumbered = none_unless (number_at old f) (λ k is. (let le = sound.few f k is in let ge = none.none k (kept f k is) in omega arith));
    waits = λ g h. (let b = below_was g (n + 1) (omega arith) (waits.each g h) in record { number = b.number; given = b.given });
  }

  pub numbered_more : Sound run new (n + 1)
  numbered_more = record {
    only = λ x k at. elim (was x k at) [ inl (in_class, _) ↦ event_of run given.event x in_class | inr is ↦ sound.only x k is ];
    positive = λ x k at. elim (was x k at) [ inl (_, is) ↦ omega arith | inr is ↦ sound.positive x k is ];
    few = λ x k at. elim (was x k at) [ inl (_, is) ↦ omega arith | inr is ↦ (let le = sound.few x k is in omega arith) ];
    dense = λ j pos le. dense j pos le;
    waits = λ x k at. elim (was x k at) [
      | inl (in_class, is) ↦ rw is (new_waits x in_class)
      | inr is ↦ waits_kept x k (sound.waits x k is)
    ];
    shared = λ x y k at same. elim (was x k at) [
      | inl (in_class, is) ↦ rw is (given.fresh y (class_trans run given.event x y in_class same))
      | inr is ↦ kept y k (sound.shared x y k is same)
    ];
    apart = λ x y k at_x at_y. apart x y k (was x k at_x) (was y k at_y);
    least = λ x f k at event waits none. elim (was x k at) [
      | inl (in_class, is) ↦ at_most_same run x given.event f (class_sym run given.event x in_class) (given.next.least f (was_ready f event (rw is at waits) (rw is at none)))
      | inr is ↦ (let le = sound.few x k is in sound.least x f k is event (waits_was f k (omega arith) waits) (record { none = λ l at_l. none.none l (kept f l at_l) }))
    ];
    placed = λ x k at. elim (was x k at) [ inl (in_class, _) ↦ new_placed x in_class | inr is ↦ sound.placed x k is ];
  }
    where
      dense : (j : ℕ) → 0 < j → j ≤ n + 1 → (f : Place) × (number_at new f ≡ Some j)
      dense j pos le = elim (eq-or-lt_of_le le) [
        | inl is ↦ (given.event, rw is (given.fresh given.event (class_self run given.event given.next.ready.event)))
        | inr lt ↦ (let f = sound.dense j pos (omega arith) in (f.0, kept f.0 j f.1))
      ]

      apart : (x y : Place) (k : ℕ) → (InClass run given.event x × (k ≡ n + 1)) ⊎ (number_at old x ≡ Some k) → (InClass run given.event y × (k ≡ n + 1)) ⊎ (number_at old y ≡ Some k) → InClass run x y
      apart x y k (inl (a, is)) (inl (b, same)) = class_trans run x given.event y (class_sym run given.event x a) b
      apart x y k (inl (a, is)) (inr at) = absurd (let le = sound.few y k at in omega arith)
      apart x y k (inr at) (inl (b, is)) = absurd (let le = sound.few x k at in omega arith)
      apart x y k (inr at) (inr too) = sound.apart x y k at too

pub so_far_more : (run : List Log) (old new : List Numbering) (n : ℕ) → IsNumberedSoFar run old n → IsGiven run old new (n + 1) → IsNumberedSoFar run new (n + 1)
so_far_more run old new n so_far given = record { fits = given.fits; sound = numbered_more run old new n so_far.sound given; room = (let less = given.left in let room = so_far.room in omega arith) }
