-- Forgetting messages.
use Rattle.totem_ring.proofs.Common.{◌≡◌, ℕ, ◌+◌, ◌-◌, ◌<◌, ◌≤◌, [], ◌∷◌, Option, false, refl, sym, ap, arith, is_some, min, Message, up_to, Held, holds, whole_above, without, RisesFrom, KeepsAru}
use Rattle.totem_ring.proofs.Rising.{none_below, whole_is, whole_holds}
use Rattle.std.proofs.lemmas.Bool.Decides.{nat_tests}

-- what is ascending above a number is ascending above a lower one
pub Rises-lower : (low least : ℕ) (es : Held) → least ≤ low → RisesFrom low es → RisesFrom least es
Rises-lower low least [] le h = tt
Rises-lower low least (e ∷ es) le h = (omega (arith, h.0), h.1, h.2)

none_held : (low q : ℕ) (es : Held) → RisesFrom low es → q ≤ low → holds es q ≡ false
none_held low q es h le = ap (λ (o : Option Message). is_some o) (none_below low q es h le)

above_low : (low : ℕ) (es : Held) → low ≤ whole_above low es
above_low low [] = omega arith
above_low low (e ∷ es) = grind (arith, above_low (low + 1) es)

-- the number after the aru isn't held
pub whole_stops : (low : ℕ) (es : Held) → RisesFrom low es → holds es (whole_above low es + 1) ≡ false
whole_stops low [] h = refl
whole_stops low (e ∷ es) h = grind (arith, nat_tests, above_low, none_held, Rises-lower, whole_stops (low + 1) es)

-- ---- without a number

pub Rises-without : (low n : ℕ) (es : Held) → RisesFrom low es → RisesFrom low (without es n)
Rises-without low n [] h = tt
Rises-without low n (e ∷ es) h = grind (arith, Rises-lower, Rises-without e.0 n es)

-- the other messages are still held
pub holds_without : (n q : ℕ) (es : Held) → (q ≡ n → ⊥) → holds (without es n) q ≡ holds es q
holds_without n q [] other = refl
holds_without n q (e ∷ es) other = grind (arith, nat_tests, holds_without n q es)

-- and the forgotten one is not
pub gone : (low n : ℕ) (es : Held) → RisesFrom low es → holds (without es n) n ≡ false
gone low n [] h = refl
gone low n (e ∷ es) h = grind (arith, nat_tests, none_held, gone e.0 n es)

pub KeepsAru-without : (held : Held) (aru n : ℕ) → 0 < n → KeepsAru held aru → KeepsAru (without held n) (min aru (n - 1))
KeepsAru-without held aru n positive h = record {
  aru_is = sym (whole_is 0 (min aru (n - 1)) (without held n) (Rises-without 0 n held h.rises) (record {
    begins = omega arith;
    whole = λ k above under. grind (arith, holds_without n k held, whole_holds 0 k held);
    stops = grind (arith, gone 0 n held, holds_without n (aru + 1) held, whole_stops 0 held);
  }));
  rises = Rises-without 0 n held h.rises;
}

-- ---- up to a number

pub Rises-up_to : (low seq : ℕ) (es : Held) → RisesFrom low es → RisesFrom low (up_to seq es)
Rises-up_to low seq [] h = tt
Rises-up_to low seq (e ∷ es) h = grind (arith, Rises-lower, Rises-up_to e.0 seq es)

pub holds_up_to : (seq q : ℕ) (es : Held) → q ≤ seq → holds (up_to seq es) q ≡ holds es q
holds_up_to seq q [] le = refl
holds_up_to seq q (e ∷ es) le = grind (arith, nat_tests, holds_up_to seq q es)

pub none_up_to : (seq q : ℕ) (es : Held) → seq < q → holds (up_to seq es) q ≡ false
none_up_to seq q [] lt = refl
none_up_to seq q (e ∷ es) lt = grind (arith, nat_tests, none_up_to seq q es)

pub KeepsAru-up_to : (held : Held) (aru seq : ℕ) → KeepsAru held aru → KeepsAru (up_to seq held) (min aru seq)
KeepsAru-up_to held aru seq h = record {
  aru_is = sym (whole_is 0 (min aru seq) (up_to seq held) (Rises-up_to 0 seq held h.rises) (record {
    begins = omega arith;
    whole = λ k above under. grind (arith, holds_up_to seq k held, whole_holds 0 k held);
    stops = grind (arith, holds_up_to seq (aru + 1) held, whole_stops 0 held, none_up_to seq (min aru seq + 1) held);
  }));
  rises = Rises-up_to 0 seq held h.rises;
}
