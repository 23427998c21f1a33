-- Entering deliveries, entry by entry.
use Rattle.totem_walk.proofs.Common.{◌≡◌, ℕ, ◌+◌, ◌≤◌, ◌⊎◌, inl, inr, List, length, slice_get, Option, Some, None, Bool, true, false, refl, sym, ◌∙◌, ap, subst, arith, slice_get_within, BTreeMap, is_at, RingId, ConfId, Regular, MsgId, Entry, Conf, Send, Deliver, Fail, DeliversIn, less_or_not, DeliversThere, DeliversNothing, message_order, IsFollowedBy, IsDeliveredBefore, AreDeliveriesBefore, IsDelivered, AreDeliveries}
use Rattle.std.specs.declared.cmp.Ordering.{Ordering}
use Rattle.std.specs.declared.cmp.Ordering.TheVariants.{Less, Equal, Greater}
use Rattle.std.specs.Ordering.{ordering_then, nat_cmp, is_eq}
use Rattle.std.specs.BTreeMap as tree
use Rattle.std.proofs.lemmas.Map.Lookups.{CmpEqualImpliesEq, exact_unsigned}
use Rattle.totem_names.specs.contracts.ring.RingIdOrd.TheImpl as ring
use Rattle.totem_walk.specs.declared.deliveries.Deliveries.{Deliveries}

-- messages that compare as equal are equal
both_equal : (a b : Ordering) → ordering_then a b ≡ Equal → (a ≡ Equal) × (b ≡ Equal)
both_equal Less b e = absurd cc
both_equal Equal b e = (refl, e)
both_equal Greater b e = absurd cc

abbrev ring_of : ℕ → ℕ → RingId
ring_of s r = record { seq = s; rep = r }

abbrev message_of : RingId → ℕ → MsgId
message_of c n = record { ring = c; number = n }

same_ring : (c d : RingId) → ring.cmp-value.it c d ≡ Equal → c ≡ d
same_ring c d e = let h = both_equal (nat_cmp c.seq d.seq) (nat_cmp c.rep d.rep) e in
    ap (λ (x : ℕ). ring_of x c.rep) (exact_unsigned c.seq d.seq h.0) ∙ ap (ring_of d.seq) (exact_unsigned c.rep d.rep h.1)

exact_message : CmpEqualImpliesEq message_order
exact_message m n e = let h = both_equal (ring.cmp-value.it m.ring n.ring) (nat_cmp m.number n.number) e in
    ap (λ (x : RingId). message_of x m.number) (same_ring m.ring n.ring h.0) ∙ ap (message_of n.ring) (exact_unsigned m.number n.number h.1)

equal_at : (o : Ordering) → is_eq o ≡ true → o ≡ Equal
equal_at Less e = absurd cc
equal_at Equal e = refl
equal_at Greater e = absurd cc

apart_or_at : (b : Bool) → (b ≡ true) ⊎ (b ≡ false)
apart_or_at true = inl refl
apart_or_at false = inr refl

-- what holds at the new entry of a map, and still holds at every other one, holds at every entry
everywhere : (P : MsgId → Option ℕ → Type 0) (old new : BTreeMap MsgId ℕ) (m : MsgId) (k : ℕ) → tree.Updates message_order old new m (Some k) → P m (Some k)
    → ((o : MsgId) → (o ≡ m → tree.get message_order old o ≡ Some k) → P o (tree.get message_order old o)) → (o : MsgId) → P o (tree.get message_order new o)
everywhere P old new m k h here others o = elim (apart_or_at (is_at (message_order m) o)) [
  | inl at ↦ (let same : m ≡ o = exact_message m o (equal_at (message_order m o) at) in subst (λ (z : MsgId). P z (tree.get message_order new z)) same (subst (λ (i : Option ℕ). P m i) (sym h.1) here))
  | inr apart ↦ subst (λ (i : Option ℕ). P o i) (sym (h.2 o apart)) (others o (λ e. sym (h.2 o apart) ∙ ap (λ (z : MsgId). tree.get message_order new z) e ∙ h.1))
]

module _ (log : List Entry) (c : RingId) (n : ℕ) where
  -- the message that the entry at n delivers
  there : (e : Entry) (follower : Option ConfId) (m : MsgId) → IsFollowedBy log c follower → slice_get log n ≡ Some e → DeliversIn log c m n → DeliversThere e (Regular c) follower m
  there e follower m of at (d, delivers, belongs) =
      let one : e ≡ Deliver m d = (let both : Some e ≡ Some (Deliver m d) = sym at ∙ delivers in cc) in
      subst (λ (z : Entry). DeliversThere z (Regular c) follower m) (sym one) (refl, (of.exact d).0 belongs)

  delivers_there : (e : Entry) (follower : Option ConfId) (m : MsgId) → IsFollowedBy log c follower → slice_get log n ≡ Some e → DeliversThere e (Regular c) follower m → DeliversIn log c m n
  delivers_there (Conf y members) follower m of at h = absurd h
  delivers_there (Send o y service) follower m of at h = absurd h
  delivers_there (Deliver o y) follower m of at (same, belongs) = (y, rw same at at, (of.exact y).1 belongs)
  delivers_there (Fail y) follower m of at h = absurd h

  one_there : (m o : MsgId) → DeliversIn log c m n → DeliversIn log c o n → o ≡ m
  one_there m o (x, at, _) (y, at', _) = let both : Some (Deliver m x) ≡ Some (Deliver o y) = sym at ∙ at' in cc

  -- what the entry does not deliver is known as before
  others_more : (m : MsgId) (i : Option ℕ) → (i ≡ None → DeliversIn log c m n → ⊥) → IsDeliveredBefore log c m n i → IsDeliveredBefore log c m (n + 1) i
  others_more m None never h = record {
    never = λ k lt delivers. elim (less_or_not k n) [
      | inl under ↦ h.never k under delivers
      | inr more ↦ elim more [ inl over ↦ omega arith | inr same ↦ never refl (rw same at delivers) ]
    ];
  }
  others_more m (Some k) never h = record { below = (let lt = h.below in omega arith); delivers = h.delivers }

  pub enters_nothing : (deliveries : Deliveries) (e : Entry) (follower : Option ConfId) → IsFollowedBy log c follower → slice_get log n ≡ Some e → DeliversNothing e (Regular c) follower
      → AreDeliveriesBefore deliveries log c n → AreDeliveriesBefore deliveries log c (n + 1)
  enters_nothing deliveries e follower of at nothing before = record {
    each = λ m. others_more m _ (λ _ h. nothing.never m (there e follower m of at h)) (before.each m);
  }

  pub enters_one : (deliveries : Deliveries) (more : BTreeMap MsgId ℕ) (e : Entry) (follower : Option ConfId) (m : MsgId) → IsFollowedBy log c follower → slice_get log n ≡ Some e → DeliversThere e (Regular c) follower m
      → tree.Updates message_order deliveries.indices more m (Some n) → AreDeliveriesBefore deliveries log c n → AreDeliveriesBefore (record { indices = more }) log c (n + 1)
  enters_one deliveries more e follower m of at is updates before = record {
    each = everywhere (λ o i. IsDeliveredBefore log c o (n + 1) i) deliveries.indices more m n updates
        (record { below = omega arith; delivers = delivers_there e follower m of at is })
        (λ o known. others_more o _ (λ none h. (let found = known (one_there m o (delivers_there e follower m of at is) h) in cc)) (before.each o));
  }

pub entered_all : (deliveries : Deliveries) (log : List Entry) (c : RingId) (n : ℕ) → length log ≤ n → AreDeliveriesBefore deliveries log c n → AreDeliveries deliveries log c
entered_all deliveries log c n end before = record { each = λ m. whole m _ (before.each m) }
  where
    whole : (m : MsgId) (i : Option ℕ) → IsDeliveredBefore log c m n i → IsDelivered log c m i
    whole m None h = λ (k, delivers). h.never k (let lt = slice_get_within log k (Deliver m delivers.0) delivers.1 in omega arith) delivers
    whole m (Some k) h = h.delivers
