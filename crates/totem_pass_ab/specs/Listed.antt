-- The faults of two passes (docs/SPECIFICATIONS.md, "Passes").
use Rattle.std.specs.Prelude.{◌≢◌, ◌⊎◌, List, []}
use Rattle.totem_evs.specs.declared.fault.Fault.{Fault}
use Rattle.totem_evs.specs.declared.log.Log.{Log}
use Rattle.totem_evs.specs.Answers.{Lists, pass_a, pass_b}

-- the faults of pass A if it finds any, otherwise those of pass B
abbrev pub ListsFirst : List Log → List Fault → Type 0
ListsFirst run faults = ((faults ≢ []) × Lists run pass_a faults) ⊎ (Lists run pass_a [] × Lists run pass_b faults)
