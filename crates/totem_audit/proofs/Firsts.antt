-- From the results of the first three passes to what they list and what the answer is.
use Rattle.totem_cert.proofs.Common.{◌≢◌, ◌≡◌, inl, inr, List, [], ◌∷◌, ◌++◌, refl, Log, Numbering, IsPositions}
use Rattle.totem_evs.specs.declared.fault.Fault.{Fault}
use Rattle.totem_evs.specs.Answers.{Yes, No, IsAnswered, MeetsPasses}
use Rattle.totem_evs.specs.ClosedLists.{IsCycle}
use Rattle.totem_pass_ab.specs.Listed.{ListsFirst}
use Rattle.totem_outcome.specs.declared.accepted.Accepted.{Accepted}
use Rattle.totem_check.specs.Judged.{IsMet}
use Rattle.totem_audit.specs.Early.{BreaksEarly, ListsEarly}

-- if passes A and B list faults, these are those of the first of the two that has one
pub first_breaks : (run : List Log) (faults : List Fault) → ListsFirst run faults → faults ≢ [] → BreaksEarly run faults
first_breaks run faults (inl (some, a)) more = record { some = some; first = inl a }
first_breaks run faults (inr (a, b)) some = record { some = some; first = inr (inl (a, b)) }

-- if they list none, a closed list is the one fault of pass C
pub cycle_breaks : (run : List Log) (fault : Fault) (none faults : List Fault) → ListsFirst run none → none ≡ [] → IsCycle run fault → faults ≡ none ++ (fault ∷ []) → BreaksEarly run faults
cycle_breaks run fault none faults (inl (some, a)) empty is more = absurd (some empty)
cycle_breaks run fault none faults (inr (a, b)) empty is more =
    let one : faults ≡ fault ∷ [] = rw empty at more in
    record { some = λ e. absurd cc; first = inr (inr (a, rw empty at b, (fault, one, is))) }

-- what the first three passes list if one of them has a fault, and if none has
pub broken_early : (run : List Log) (faults : List Fault) → BreaksEarly run faults → ListsEarly run faults
broken_early run [] breaks = absurd (breaks.some refl)
broken_early run (fault ∷ faults) breaks = breaks

pub ordered_early : (run : List Log) (lines : List Numbering) (faults : List Fault) → MeetsPasses run → IsPositions run lines → faults ≡ [] → ListsEarly run faults
ordered_early run lines faults meets positions none = rw none (record { meets = meets; ordered = (lines, positions.certified) })

-- a run that is met along its positions is answered with them
pub met_answer : (run : List Log) (lines : List Numbering) (accepted : Accepted) → IsPositions run lines → IsMet run accepted → IsAnswered run (Yes lines accepted.pending.items accepted.waiting.items)
met_answer run lines accepted positions met = (met.a, met.b, positions, met.d, met.lists.pending, met.lists.waiting)

-- the faults of the first of the three that has one are the answer
pub broken_answer : (run : List Log) (faults : List Fault) → BreaksEarly run faults → IsAnswered run (No faults)
broken_answer run faults breaks = (
  breaks.some,
  elim breaks.first [
    | inl a ↦ inl a
    | inr more ↦ elim more [
      | inl b ↦ inr (inl b)
      | inr c ↦ inr (inr (inl c))
    ]
  ],
)
