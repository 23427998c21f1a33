-- A list to which all that has a property is added.
use Rattle.std.specs.Prelude.{◌↔◌, ◌⊎◌, List, Contains}

-- the new list has what the old one had and everything for which P holds
pub record Adds {T : Type 0} (P : T → Type 0) (old new : List T) : Type 0 where
  pub each : (x : T) → Contains new x ↔ (Contains old x ⊎ P x)
