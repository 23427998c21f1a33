-- Names that compare as equal are the same.
use Rattle.std.proofs.Common.{arith}
use Rattle.std.proofs.Common.{◌≡◌, ◌⊎◌, ℕ, true, false, ap, ◌∙◌}
use Rattle.std.specs.declared.cmp.Ordering.{Ordering}
use Rattle.std.specs.declared.cmp.Ordering.TheVariants.{Equal}
use Rattle.std.specs.Ordering.{ordering_then, nat_cmp, is_eq}
use Rattle.std.specs.BTreeMap.{is_at}
use Rattle.std.proofs.lemmas.Map.Lookups.{CmpEqualImpliesEq, exact_unsigned}
use Rattle.totem_names.specs.declared.ring.RingId.{RingId}
use Rattle.totem_names.specs.declared.message.MsgId.{MsgId}
use Rattle.totem_names.specs.contracts.ring.RingIdOrd.TheImpl as ring
use Rattle.totem_names.specs.contracts.conf.ConfIdOrd.TheImpl as conf
use Rattle.totem_names.specs.contracts.message.MsgIdOrd.TheImpl as message

pub both_equal : (a b : Ordering) → ordering_then a b ≡ Equal → (a ≡ Equal) × (b ≡ Equal)
both_equal a b h = grind arith

abbrev ring_of : ℕ → ℕ → RingId
ring_of s r = record { seq = s; rep = r }

pub exact_ring : CmpEqualImpliesEq ring.cmp-value.it
exact_ring c d e = let h = both_equal (nat_cmp c.seq d.seq) (nat_cmp c.rep d.rep) e in
    ap (λ (x : ℕ). ring_of x c.rep) (exact_unsigned c.seq d.seq h.0) ∙ ap (ring_of d.seq) (exact_unsigned c.rep d.rep h.1)

abbrev message_of : RingId → ℕ → MsgId
message_of c n = record { ring = c; number = n }

pub exact_message : CmpEqualImpliesEq message.cmp-value.it
exact_message m n e = let h = both_equal (ring.cmp-value.it m.ring n.ring) (nat_cmp m.number n.number) e in
    ap (λ (x : RingId). message_of x m.number) (exact_ring m.ring n.ring h.0) ∙ ap (message_of n.ring) (exact_unsigned m.number n.number h.1)

pub exact_conf : CmpEqualImpliesEq conf.cmp-value.it
exact_conf h k m = grind (arith, exact_ring, both_equal, exact_unsigned)

pub equal_at : (o : Ordering) → is_eq o ≡ true → o ≡ Equal
equal_at o h = grind arith

-- a key is at another or it is not
pub apart_or_at : {K : Type 0} (cmp : K → K → Ordering) (k q : K) → (is_at (cmp k) q ≡ true) ⊎ (is_at (cmp k) q ≡ false)
apart_or_at cmp k q = grind arith
