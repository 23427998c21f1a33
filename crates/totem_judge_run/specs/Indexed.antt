-- No two of the first changes are to one configuration.
use Rattle.std.specs.Prelude.{◌≡◌, ℕ, ◌+◌, ◌*◌, List, slice_get, Some}
use Rattle.std.specs.declared.cmp.Ordering.{Ordering}
use Rattle.std.specs.BTreeMap.{BTreeMap}
use Rattle.std.specs.BTreeMap as tree
use Rattle.totem_names.specs.declared.conf.ConfId.{ConfId}
use Rattle.totem_names.specs.declared.conf.ConfId.TheVariants.{Regular, Transitional}
use Rattle.totem_judge_run.specs.declared.changes_2_3.FirstChange.{FirstChange}

-- the order of configurations
abbrev pub conf_order : ConfId → ConfId → Ordering
conf_order = (Rattle.totem_names.specs.contracts.conf.ConfIdOrd.TheImpl.cmp-value).it

-- by ring, a transitional configuration before the regular one that it leads to
abbrev pub rank_of : ConfId → ℕ
rank_of (Regular c) = (c.seq * 65536 + c.rep) * 2 + 1
rank_of (Transitional least next) = (next.seq * 65536 + next.rep) * 2

-- the index has the place of each change in the list
pub record AreIndexed (list : List FirstChange) (index : BTreeMap ConfId ℕ) : Type 0 where
  pub each : (k : ℕ) (change : FirstChange) → slice_get list k ≡ Some change → tree.get conf_order index change.conf.now ≡ Some k

-- two changes in the list to one configuration are one
pub record EachOnce (list : List FirstChange) : Type 0 where
  pub one : (i j : ℕ) (a b : FirstChange) → slice_get list i ≡ Some a → slice_get list j ≡ Some b → a.conf.now ≡ b.conf.now → i ≡ j
