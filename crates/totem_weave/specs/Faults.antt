-- Why a ring can't be woven, by number and name (docs/PROTOCOL.md, "The woven ring").
use Rattle.std.specs.Prelude.{ℕ, List, codes}
use Rattle.totem_weave.specs.declared.fault.WeaveFault.{WeaveFault}
use Rattle.totem_weave.specs.declared.fault.WeaveFault.TheVariants.{Members, Orphan, Memory}

abbrev pub weave_number : WeaveFault → ℕ
weave_number Members = 1
weave_number (Orphan place) = 2
weave_number Memory = 3

abbrev pub weave_name : WeaveFault → List ℕ
weave_name Members = codes "Members"
weave_name (Orphan place) = codes "Orphan"
weave_name Memory = codes "Memory"
