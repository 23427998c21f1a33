-- Held messages with ascending numbers.
use Rattle.totem_ring.proofs.Common.{◌≡◌, ℕ, ◌+◌, ◌^◌, ◌<◌, ◌≤◌, [], ◌∷◌, Some, None, Bool, true, cond, refl, arith, nat_cmp, insert_entry, is_at, Message, Held, message_at, holds, whole_above, going_up, may_go_up, RisesFrom, IsWholeTo}
use Rattle.std.specs.Map.{remove_entry}
use Rattle.std.proofs.lemmas.Bool.Decides.{nat_tests}

pub at_same : (e : ℕ × Message) (es : Held) (k : ℕ) → k ≡ e.0 → message_at (e ∷ es) k ≡ Some e.1
at_same e es k same = grind arith

pub at_other : (e : ℕ × Message) (es : Held) (k : ℕ) → (k ≡ e.0 → ⊥) → message_at (e ∷ es) k ≡ message_at es k
at_other e es k other = grind arith

pub none_below : (low k : ℕ) (es : Held) → RisesFrom low es → k ≤ low → message_at es k ≡ None
none_below low k [] h le = refl
none_below low k (e ∷ es) h le = grind (arith, nat_tests, none_below e.0 k es)

pub none_past : (low : ℕ) (es : Held) (k : ℕ) → RisesFrom low es → 2 ^ 32 ≤ k → message_at es k ≡ None
none_past low [] k h le = refl
none_past low (e ∷ es) k h le = grind (arith, nat_tests, none_past e.0 es k)

pub Rises-insert : (low : ℕ) (es : Held) (k : ℕ) (m : Message) → RisesFrom low es → low < k → k < 2 ^ 32 → RisesFrom low (insert_entry nat_cmp es k m)
Rises-insert low [] k m h above fits = (above, fits, tt)
Rises-insert low (e ∷ es) k m h above fits = grind (arith, nat_tests, Rises-insert e.0 es k m)

-- removing a message that is the first
remove_first : (k : ℕ) (m : Message) (es : Held) → remove_entry (is_at (nat_cmp k)) ((k, m) ∷ es) ≡ es
remove_first k m es = grind arith

-- removing a new message again
pub remove-insert : (low : ℕ) (es : Held) (k : ℕ) (m : Message) → message_at es k ≡ None → remove_entry (is_at (nat_cmp k)) (insert_entry nat_cmp es k m) ≡ es
remove-insert low [] k m none = remove_first k m []
remove-insert low (e ∷ es) k m none = grind (arith, nat_tests, remove_first, remove-insert low es k m)

whole_tail : (low n : ℕ) (e : ℕ × Message) (es : Held) → e.0 ≡ low + 1 → low < n → IsWholeTo (e ∷ es) low n → IsWholeTo es (low + 1) n
whole_tail low n e es same below is = record {
  begins = omega arith;
  whole = λ k above under. grind (arith, nat_tests, is.whole k);
  stops = grind (arith, nat_tests, is.stops);
}

-- where a list is whole from low to n and stops there
pub whole_is : (low n : ℕ) (es : Held) → RisesFrom low es → IsWholeTo es low n → whole_above low es ≡ n
whole_is low n [] h is = grind (arith, is.whole (low + 1))
whole_is low n (e ∷ es) h is = grind (arith, nat_tests, none_below e.0 (low + 1) es, whole_tail, is.whole (low + 1), whole_is (low + 1) n es)

-- all up to the aru are held
pub whole_holds : (low k : ℕ) (es : Held) → low < k → k ≤ whole_above low es → holds es k ≡ true
whole_holds low k [] above under = absurd (omega arith)
whole_holds low k (e ∷ es) above under = grind (arith, nat_tests, whole_holds (low + 1) k es)

-- the messages to deliver, one after another: the next one, if it may be delivered
pub going_at : (low handed safe_to : ℕ) (es : Held) (m : Message) (may : Bool) → RisesFrom low es → message_at es (handed + 1) ≡ Some m → may_go_up safe_to (handed + 1, m) ≡ may
    → going_up handed safe_to es ≡ cond may (m ∷ going_up (handed + 1) safe_to es) []
going_at low handed safe_to [] m may h at is = absurd cc
going_at low handed safe_to (e ∷ es) m may h at is = grind (arith, nat_tests, none_below e.0 (handed + 1) es, going_at e.0 handed safe_to es m may)

pub going_none : (low handed safe_to : ℕ) (es : Held) → RisesFrom low es → message_at es (handed + 1) ≡ None → going_up handed safe_to es ≡ []
going_none low handed safe_to [] h at = refl
going_none low handed safe_to (e ∷ es) h at = grind (arith, nat_tests, going_none e.0 handed safe_to es)
