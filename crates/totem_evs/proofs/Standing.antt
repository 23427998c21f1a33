-- A log is in one configuration at a time.
use Rattle.totem_evs.proofs.Common.{◌≡◌, ℕ, ◌<◌, ◌⊎◌, inl, inr, List, slice_get, Some, arith, ConfId, ChangesTo, StandsIn}
use Rattle.totem_evs.specs.declared.entry.Entry.{Entry}
use Rattle.totem_evs.specs.declared.entry.Entry.TheVariants.{Conf}

pub less_or_not : (a b : ℕ) → (a < b) ⊎ ((b < a) ⊎ (a ≡ b))
less_or_not a b = grind arith

same_change : (log : List Entry) (i j : ℕ) (x y : ConfId) → i ≡ j → ChangesTo log i x → ChangesTo log j y → x ≡ y
same_change log i j x y e (ms, h) (ns, k) = let at : slice_get log j ≡ Some (Conf x ms) = rw e at h in cc

pub one_standing : (log : List Entry) (i : ℕ) (x y : ConfId) → StandsIn log i x → StandsIn log i y → x ≡ y
one_standing log i x y a b =
    elim (less_or_not a.from b.from) [
      | inl lt ↦ absurd (a.none_between b.from lt b.before (y, b.change))
      | inr rest ↦ elim rest [
        | inl gt ↦ absurd (b.none_between a.from gt a.before (x, a.change))
        | inr same ↦ same_change log a.from b.from x y same a.change b.change
      ]
    ]
