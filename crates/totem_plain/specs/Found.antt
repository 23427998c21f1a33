-- Which specifications are judged in each regular configuration, and what the passes find (docs/SPECIFICATIONS.md, "Passes").
use Rattle.std.specs.Prelude.{◌≢◌, ◌⊎◌, List, [], Contains}
use Rattle.totem_evs.specs.declared.log.Log.{Log}
use Rattle.totem_evs.specs.declared.fault.Fault.{Fault}
use Rattle.totem_evs.specs.declared.spec.SpecNo.{SpecNo}
use Rattle.totem_evs.specs.Answers.{Lists, ListsConfigurations, pass_a, pass_b, specs_d}

abbrev pub IsOfPassD : SpecNo → Type 0
IsOfPassD k = Contains specs_d k

-- the faults of the first of passes A, B and D that has one
abbrev pub ListsFirst : List Log → List Fault → Type 0
ListsFirst run faults = ((faults ≢ []) × Lists run pass_a faults) ⊎ ((faults ≢ []) × Lists run pass_a [] × Lists run pass_b faults) ⊎ (Lists run pass_a [] × Lists run pass_b [] × ListsConfigurations run faults)
