-- Which change may follow which (docs/SPECIFICATIONS.md, "2 Changes of configuration").
use Rattle.std.specs.Prelude.{◌≢◌, ◌⊎◌, ℕ, List, All, Contains}
use Rattle.totem_names.specs.declared.conf.ConfId.{ConfId}
use Rattle.totem_names.specs.declared.conf.ConfId.TheVariants.{Regular, Transitional}

-- the second of these changes may not be the next after the first
abbrev pub IsWrongSuccession : ConfId → List ℕ → ConfId → List ℕ → Type 0
IsWrongSuccession (Regular c) ms (Regular d) ns = Unit {0}
IsWrongSuccession (Regular c) ms (Transitional least next) ns = All (Contains ms) ns → ⊥
IsWrongSuccession (Transitional least next) ms (Regular c) ns = (All (Contains ns) ms → ⊥) ⊎ (c ≢ next)
IsWrongSuccession (Transitional least next) ms (Transitional other later) ns = Unit {0}
