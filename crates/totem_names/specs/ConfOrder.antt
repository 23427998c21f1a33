-- How configurations compare: regular ones by ring, before the transitional ones by next ring and then by least member.
use Rattle.std.proofs.Common.{◌≡◌, ◌==◌, ◌&&◌, ℕ, Bool, false, refl, ◌∙◌}
use Rattle.std.proofs.Math.Bool.{and_comm}
use Rattle.std.specs.Ordering.{ordering_then, ordering_reverse, nat_cmp, is_eq, eq_by_cmp, on, then_cmp}
use Rattle.std.specs.declared.cmp.Ordering.{Ordering}
use Rattle.std.specs.declared.cmp.Ordering.TheVariants.{Less, Equal, Greater}
use Rattle.std.specs.Cmp.{IsTotalOrder, nat_cmp_total, on_total, then_total, unsigned_ties, both_tied}
use Rattle.totem_names.specs.declared.conf.ConfId.{ConfId}
use Rattle.totem_names.specs.declared.conf.ConfId.TheVariants.{Regular, Transitional}
use Rattle.totem_names.specs.Names.{RingName}

abbrev pub ring_cmp : RingName → RingName → Ordering
ring_cmp = then_cmp (on (λ (c : RingName). c.seq) nat_cmp) (on (λ (c : RingName). c.rep) nat_cmp)

abbrev pub conf_cmp : ConfId → ConfId → Ordering
conf_cmp (Regular a) (Regular b) = ring_cmp a b
conf_cmp (Regular a) (Transitional least next) = Less
conf_cmp (Transitional least next) (Regular b) = Greater
conf_cmp (Transitional least next) (Transitional other later) = ordering_then (ring_cmp next later) (nat_cmp least other)

ring_total : IsTotalOrder ring_cmp
ring_total = then_total (on_total (λ (c : RingName). c.seq) nat_cmp_total) (on_total (λ (c : RingName). c.rep) nat_cmp_total)

-- a ring and a process, as of transitional configurations
pairs : IsTotalOrder (then_cmp (on (λ (x : RingName × ℕ). x.0) ring_cmp) (on (λ (x : RingName × ℕ). x.1) nat_cmp))
pairs = then_total (on_total (λ (x : RingName × ℕ). x.0) ring_total) (on_total (λ (x : RingName × ℕ). x.1) nat_cmp_total)

pub conf_total : IsTotalOrder conf_cmp
conf_total = record { antisymm = antisymm; trans = trans; congr = congr }
  where
    antisymm : (a b : ConfId) → conf_cmp a b ≡ ordering_reverse (conf_cmp b a)
    antisymm (Regular a) (Regular b) = ring_total.antisymm a b
    antisymm (Regular a) (Transitional p n) = refl
    antisymm (Transitional p n) (Regular b) = refl
    antisymm (Transitional p n) (Transitional q m) = pairs.antisymm (n, p) (m, q)

    trans : (a b c : ConfId) → conf_cmp a b ≡ Less → conf_cmp b c ≡ Less → conf_cmp a c ≡ Less
    trans (Regular a) (Regular b) (Regular c) h k = ring_total.trans a b c h k
    trans (Regular a) (Regular b) (Transitional p n) h k = refl
    trans (Regular a) (Transitional p n) (Regular c) h k = absurd cc
    trans (Regular a) (Transitional p n) (Transitional q m) h k = refl
    trans (Transitional p n) (Regular b) c h k = absurd cc
    trans (Transitional p n) (Transitional q m) (Regular c) h k = k
    trans (Transitional p n) (Transitional q m) (Transitional r l) h k = pairs.trans (n, p) (m, q) (l, r) h k

    congr : (a b c : ConfId) → conf_cmp a b ≡ Equal → conf_cmp a c ≡ conf_cmp b c
    congr (Regular a) (Regular b) (Regular c) h = ring_total.congr a b c h
    congr (Regular a) (Regular b) (Transitional p n) h = refl
    congr (Regular a) (Transitional p n) c h = absurd cc
    congr (Transitional p n) (Regular b) c h = absurd cc
    congr (Transitional p n) (Transitional q m) (Regular c) h = refl
    congr (Transitional p n) (Transitional q m) (Transitional r l) h = pairs.congr (n, p) (m, q) (l, r) h

ring_ties : (a b : RingName) → ((a.seq == b.seq) && (a.rep == b.rep)) ≡ is_eq (ring_cmp a b)
ring_ties a b = both_tied (a.seq == b.seq) (a.rep == b.rep) (nat_cmp a.seq b.seq) (nat_cmp a.rep b.rep) (unsigned_ties a.seq b.seq) (unsigned_ties a.rep b.rep)

-- an `==` that compares the fields holds exactly of what compares as `Equal`
pub conf_ties : (E : ConfId → ConfId → Bool) → ((a b : RingName) → E (Regular a) (Regular b) ≡ ((a.seq == b.seq) && (a.rep == b.rep)))
    → ((a : RingName) (p : ℕ) (n : RingName) → E (Regular a) (Transitional p n) ≡ false)
    → ((p : ℕ) (n a : RingName) → E (Transitional p n) (Regular a) ≡ false)
    → ((p q : ℕ) (n m : RingName) → E (Transitional p n) (Transitional q m) ≡ ((p == q) && ((n.seq == m.seq) && (n.rep == m.rep))))
    → (a b : ConfId) → E a b ≡ eq_by_cmp conf_cmp a b
conf_ties E regular before after transitional (Regular a) (Regular b) = regular a b ∙ ring_ties a b
conf_ties E regular before after transitional (Regular a) (Transitional p n) = before a p n
conf_ties E regular before after transitional (Transitional p n) (Regular b) = after p n b
conf_ties E regular before after transitional (Transitional p n) (Transitional q m) = transitional p q n m ∙ and_comm (p == q) ((n.seq == m.seq) && (n.rep == m.rep))
    ∙ both_tied ((n.seq == m.seq) && (n.rep == m.rep)) (p == q) (ring_cmp n m) (nat_cmp p q) (ring_ties n m) (unsigned_ties p q)
