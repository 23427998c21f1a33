-- Lists of changes in which no two are to one configuration.
use Rattle.totem_judge_run.proofs.Common.{below_more, ◌≡◌, ℕ, ◌<◌, ◌≤◌, ◌+◌, List, length, slice_get, slice_get_within, Some, sym, ◌∙◌, ap, arith}
use Rattle.totem_judge_run.specs.declared.changes_2_3.FirstChange.{FirstChange}
use Rattle.std.specs.BTreeMap as tree
use Rattle.totem_judge_run.specs.Indexed.{AreIndexed, EachOnce, conf_order, rank_of}
use Rattle.totem_judge_run.proofs.Decisions.{neither_below}

-- the changes before this index rise, up to the given rank
pub record RiseTo (list : List FirstChange) (at last : ℕ) : Type 0 where
  pub most : (k : ℕ) → k < at → (a : FirstChange) → slice_get list k ≡ Some a → rank_of a.conf.now ≤ last
  pub rise : (k : ℕ) → k < at → (j : ℕ) (a b : FirstChange) → j < k → slice_get list j ≡ Some a → slice_get list k ≡ Some b → rank_of a.conf.now < rank_of b.conf.now

pub rise_more : (list : List FirstChange) (at last rank : ℕ) (c : FirstChange) → slice_get list at ≡ Some c → rank ≡ rank_of c.conf.now → last < rank → RiseTo list at last → RiseTo list (at + 1) rank
rise_more list at last rank c here is above so = record {
  most = below_more (λ k. (a : FirstChange) → slice_get list k ≡ Some a → rank_of a.conf.now ≤ rank) at
      (λ k lt a there. omega (arith, so.most k lt a there))
      (λ a there. (let same : c ≡ a = cc in omega (arith, ap (λ (f : FirstChange). rank_of f.conf.now) same)));
  rise = below_more (λ k. (j : ℕ) (a b : FirstChange) → j < k → slice_get list j ≡ Some a → slice_get list k ≡ Some b → rank_of a.conf.now < rank_of b.conf.now) at
      so.rise
      (λ j a b lt first second. (let same : c ≡ b = cc in omega (arith, so.most j lt a first, ap (λ (f : FirstChange). rank_of f.conf.now) same)));
}

-- changes that rise are each to another configuration
pub once_if_rising : (list : List FirstChange) (at last : ℕ) → length list ≤ at → RiseTo list at last → EachOnce list
once_if_rising list at last end so = record {
  one = λ i j a b first second same. neither_below i j
      (λ lt. (let h = so.rise j (omega (arith, slice_get_within list j b second)) i a b lt first second in omega (arith, ap rank_of same)))
      (λ gt. (let h = so.rise i (omega (arith, slice_get_within list i a first)) j b a gt second first in omega (arith, ap rank_of same)));
}

pub once_if_indexed : (list : List FirstChange) (index : tree.BTreeMap _ ℕ) → AreIndexed list index → EachOnce list
once_if_indexed list index so = record { one = λ i j a b first second same. (let h : Some i ≡ Some j = sym (so.each i a first) ∙ ap (tree.get conf_order index) same ∙ so.each j b second in cc) }
