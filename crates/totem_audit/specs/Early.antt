-- The results of the first three passes (docs/SPECIFICATIONS.md, "Passes").
use Rattle.std.specs.Prelude.{◌≢◌, ◌⊎◌, List, [], ◌∷◌}
use Rattle.totem_evs.specs.declared.log.Log.{Log}
use Rattle.totem_evs.specs.declared.fault.Fault.{Fault}
use Rattle.totem_evs.specs.Answers.{Lists, ListsCycle, MeetsPasses, HasCertificate, pass_a, pass_b}

-- these are the faults of the first of the three passes that has one
pub record BreaksEarly (run : List Log) (faults : List Fault) : Type 0 where
  pub some : faults ≢ []
  pub first : Lists run pass_a faults ⊎ (Lists run pass_a [] × Lists run pass_b faults) ⊎ (Lists run pass_a [] × Lists run pass_b [] × ListsCycle run faults)

-- none of the three has a fault: the run meets the specifications of the first two, and has a certificate
pub record PassesEarly (run : List Log) : Type 0 where
  pub meets : MeetsPasses run
  pub ordered : HasCertificate run

-- what they list: the faults of the first that has one, or nothing if none has
abbrev pub ListsEarly : List Log → List Fault → Type 0
ListsEarly run [] = PassesEarly run
ListsEarly run (fault ∷ faults) = BreaksEarly run (fault ∷ faults)
