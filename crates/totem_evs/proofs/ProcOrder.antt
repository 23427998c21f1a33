-- Processes of a run that compare as equal are the same.
use Rattle.std.proofs.Common.{arith}
use Rattle.totem_evs.proofs.Common.{◌≡◌}
use Rattle.std.specs.declared.cmp.Ordering.{Ordering}
use Rattle.std.specs.declared.cmp.Ordering.TheVariants.{Equal}
use Rattle.std.specs.Ordering.{ordering_then}
use Rattle.std.proofs.lemmas.Map.Lookups.{CmpEqualImpliesEq, exact_unsigned}
use Rattle.totem_names.proofs.RankParts.{rank_of_parts}
use Rattle.totem_names.specs.contracts.life.ProcOrd.TheImpl as life

both_equal : (a b : Ordering) → ordering_then a b ≡ Equal → (a ≡ Equal) × (b ≡ Equal)
both_equal a b h = grind arith

pub exact_proc : CmpEqualImpliesEq life.cmp-value.it
exact_proc a b e = grind (arith, both_equal, rank_of_parts, exact_unsigned)
