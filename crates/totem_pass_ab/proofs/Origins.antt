-- The rings from which logs come to configurations, as they are noted.
use Rattle.totem_pass_ab.proofs.Common.{◌≡◌, ◌≢◌, ℕ, ◌<◌, ◌≤◌, inl, inr, List, [], ◌∷◌, Some, None, Bool, true, false, nat_lt, sym, subst, ◌∙◌, arith, IfSome, OnFalse, slice_get_within, Ordering, IsTotalOrder, BTreeMap, RingId, ConfId, Regular, Place, apart_or_at, Entry, Conf, Log, log_of, IsChange, ChangesNext, HoldsOfNone, Keeps, KnowsRun, IsWithin, Widens, KnowsOrigin}
use Rattle.std.proofs.lemmas.Bool.{ltb-false}
use Rattle.std.specs.BTreeMap as tree
use Rattle.totem_search.specs.Turns.{IsOtherOrigin}
use Rattle.totem_search.proofs.Turning.{one_succession}
use Rattle.totem_pass_ab.specs.declared.succession_2_4.Latest.{Latest}
use Rattle.totem_pass_ab.proofs.Knowing.{same_get}
use Rattle.totem_pass_ab.proofs.Quick.{none_known}

module _ (by_conf : ConfId → ConfId → Ordering) where
  -- no log comes from an entry that is no change
  pub spares_origin : (s : BTreeMap ConfId Latest) (p : ℕ) (log : List Entry) (i : ℕ) → (IsChange log i → ⊥) → KnowsOrigin by_conf s p log i
  spares_origin s p log i never = record { each = λ j c t ms ns succession. absurd (never (Regular c, (ms, succession.first))) }

  pub keeps_origins : IsTotalOrder by_conf → (s t : BTreeMap ConfId Latest) (y : ConfId) (w : Latest) → tree.Updates by_conf s t y (Some w) → IfSome (tree.get by_conf s y) (λ v. Widens v w) → Keeps (KnowsOrigin by_conf s) (KnowsOrigin by_conf t)
  keeps_origins total s t y w new wider = record { each = λ p log i h. record { each = λ j c x ms ns succession. more p c x (h.each j c x ms ns succession) } }
    where
      more : (p : ℕ) (c : RingId) (x : ConfId) → (v : Latest) × (tree.get by_conf s x ≡ Some v) × IsWithin v p c → (v : Latest) × (tree.get by_conf t x ≡ Some v) × IsWithin v p c
      more p c x (v, is, within) = elim (apart_or_at by_conf y x) [
        | inr apart ↦ (v, new.2 x apart ∙ is, within)
        | inl at ↦ (w, same_get by_conf total t y x at ∙ new.1, (let wide : IfSome (Some v) (λ u. Widens u w) = subst (λ o. IfSome o (λ u. Widens u w)) (sym (same_get by_conf total s y x at) ∙ is) wider in wide.each p c within))
      ]

  pub enters_origin : (s t : BTreeMap ConfId Latest) (p : ℕ) (log : List Entry) (i j : ℕ) (x y : ConfId) (ms ns : List ℕ) (d : RingId) (w : Latest) → x ≡ Regular d → ChangesNext log i j x y ms ns → tree.Updates by_conf s t y (Some w) → IsWithin w p d
      → KnowsOrigin by_conf t p log i
  enters_origin s t p log i j x y ms ns d w is succession new within = record {
    each = λ k c z ks ls succession'. (let one = one_succession log i j k x (Regular c) y z ms ks ns ls succession succession' in let rings : d ≡ c = (let h = one.conf in cc) in
        (w, rw (← one.next) new.1, rw (← rings) within));
  }

  -- no log above p comes to t from another ring than c, if what is noted of t says so
  other_origin_noted : (run : List Log) (s : BTreeMap ConfId Latest) (p : ℕ) (c : RingId) (t : ConfId) → KnowsRun (KnowsOrigin by_conf s) run
      → ((q : ℕ) (d : RingId) (v : Latest) → tree.get by_conf s t ≡ Some v → IsWithin v q d → c ≢ d → p < q → ⊥) → HoldsOfNone (IsOtherOrigin run p c t)
  other_origin_noted run s p c t known never = record { none = λ places h. go places h }
    where
      go : (places : List Place) → IsOtherOrigin run p c t places → ⊥
      go (g ∷ h ∷ []) (k, ks, (l, ls, (same, (lt, d, os, qs, other, succession)))) =
          let noted = (known.each g.proc k (slice_get_within (log_of run g.proc) k (Conf (Regular d) os) succession.first)).each l d t os qs succession in
          never g.proc d noted.0 noted.1 noted.2 other lt
      go places h = h

  pub nothing_noted : (run : List Log) (s : BTreeMap ConfId Latest) (p : ℕ) (c : RingId) (t : ConfId) → None ≡ tree.get by_conf s t → KnowsRun (KnowsOrigin by_conf s) run → HoldsOfNone (IsOtherOrigin run p c t)
  nothing_noted run s p c t is known = other_origin_noted run s p c t known (λ q d v noted within other lt. absurd cc)

  pub none_above : (run : List Log) (s : BTreeMap ConfId Latest) (p r n : ℕ) (c : RingId) (t : ConfId) (v : Latest) (b : Bool) → r ≡ p → nat_lt r n ≡ b → Some v ≡ tree.get by_conf s t → ((q : ℕ) (d : RingId) → IsWithin v q d → c ≢ d → q ≤ n)
      → ∥ KnowsRun (KnowsOrigin by_conf s) run ∥₁ → OnFalse b (HoldsOfNone (IsOtherOrigin run p c t))
  none_above run s p r n c t v true rank below is bound known = tt
  none_above run s p r n c t v false rank below is bound known = none_known (IsOtherOrigin run p c t) known (λ known. other_origin_noted run s p c t known
      (λ q d w noted within other lt. (let same : w ≡ v = cc in let le = bound q d (rw (← same) within) other in let over = ltb-false r n below in omega arith)))
