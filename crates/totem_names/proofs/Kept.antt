-- A list that keeps the rules is not refused.
use Rattle.std.proofs.lemmas.Grind.{common_steps}
use Rattle.totem_names.proofs.Common.{ℕ, ◌≤◌, List, length, take, arith, AllPairs, get_or-take, length-take-le}
use Rattle.totem_names.specs.declared.refused.ListFault.{ListFault}
use Rattle.totem_names.specs.Lists.{Refuses}

front_pairs : {X : Type 0} (R : X → X → Type 0) (xs : List X) (n : ℕ) → n ≤ length xs → AllPairs R xs → AllPairs R (take n xs)
front_pairs R xs n fits all = grind (arith, length-take-le, get_or-take)

pub not_refused : {X : Type 0} (least greatest : ℕ) (Below : X → X → Type 0) (xs : List X) (fault : ListFault) → least ≤ length xs → length xs ≤ greatest → AllPairs Below xs → Refuses least greatest Below xs fault → ⊥
not_refused least greatest Below xs fault h k m o = grind (arith, common_steps, front_pairs)
