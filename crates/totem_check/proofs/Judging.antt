-- From what the passes list, and what is observed, to the judgement on a run whose events have an order.
use Rattle.totem_judge.proofs.Common.{Contains, RingId, Log, IsRun, Numbering, Certified, Agree}
use Rattle.totem_evs.proofs.Common.{◌≡◌, ◌≢◌, inl, inr, List, [], ◌∷◌, Ok, refl, MeetsIn}
use Rattle.totem_evs.specs.declared.fault.Fault.{Fault}
use Rattle.totem_evs.specs.declared.spec.SpecNo.{SpecNo}
use Rattle.totem_evs.specs.Answers.{No, IsAnswered, HasCertificate, Lists, ListsRings, ListsConfigurations, MeetsPasses, pass_a, pass_b}
use Rattle.totem_evs.proofs.Synchronous.{MeetsConfigurations, MeetsEach, meets_passes, meets_configurations, synchronous}
use Rattle.totem_pass_ab.specs.Listed.{ListsFirst}
use Rattle.totem_judge.specs.declared.judging.View.{View}
use Rattle.totem_judge.proofs.Settled.{configurations}
use Rattle.totem_outcome.specs.declared.accepted.Accepted.{Accepted}
use Rattle.totem_outcome.specs.Checks.{ListsOpen, Checks}
use Rattle.totem_check.specs.Judged.{IsViewOf, IsMet}
use Rattle.totem_check.proofs.AllRings.{all_rings, is_first, in_rest}

-- if passes A and B list nothing, the run meets their specifications
pub first_passed : (run : List Log) (faults : List Fault) → ListsFirst run faults → faults ≡ [] → MeetsPasses run
first_passed run faults (inl (some, a)) none = absurd (some none)
first_passed run faults (inr (a, b)) none = meets_passes run a (rw none at b)

-- if it meets them, they list nothing
pub first_a : (run : List Log) → MeetsPasses run → Lists run pass_a []
first_a run meets = inl (meets.once, inl (meets.together, inl (meets.placed, inl (meets.one, inl (meets.turns, refl)))))

pub first_b : (run : List Log) → MeetsPasses run → Lists run pass_b []
first_b run meets = inl (meets.sent, refl)

-- what passes A and B list is the answer, and so is what pass D lists after them
pub first_answer : (run : List Log) (faults : List Fault) → faults ≢ [] → ListsFirst run faults → IsAnswered run (No faults)
first_answer run faults some (inl (more, a)) = (some, inl a)
first_answer run faults some (inr (a, b)) = (some, inr (inl (a, b)))

pub last_answer : (run : List Log) (faults : List Fault) → faults ≢ [] → MeetsPasses run → HasCertificate run → ListsConfigurations run faults → IsAnswered run (No faults)
last_answer run faults some meets ordered d = (some, inr (inr (inr (first_a run meets, first_b run meets, ordered, d))))

-- where each configuration meets its specifications, pass D lists nothing
none_listed : (run : List Log) (k : SpecNo) (rings : List RingId) → ((c : RingId) → Contains rings c → MeetsIn run c k) → ListsRings run k rings []
none_listed run k [] meets = refl
none_listed run k (c ∷ cs) meets = inl (meets c (is_first c cs), none_listed run k cs (λ d has. meets d (in_rest c cs d has)))

lists_none : (run : List Log) → IsRun run → MeetsConfigurations run → ListsConfigurations run []
lists_none run is meets =
    let (rings, are) = all_rings run is in
    let none : (k : SpecNo) → MeetsEach run k → ListsRings run k rings [] = λ k h. none_listed run k rings (λ c has. h.each c ((are.exact c).0 has)) in
    record {
      rings = rings;
      are = are;
      lists = ([], [], refl, none _ meets.own, ([], [], refl, none _ meets.atomicity, ([], [], refl, none _ meets.causality, ([], [], refl, none _ meets.gap, ([], [], refl, none _ meets.safety, ([], [], refl, none _ meets.installed, refl))))));
    }

-- a yes, by pass D and by the rules
pub met_last : (run : List Log) (faults : List Fault) (accepted : Accepted) → MeetsPasses run → faults ≡ [] → ListsConfigurations run faults → ListsOpen run accepted → IsMet run accepted
met_last run faults accepted meets none d open_lists = record { a = first_a run meets; b = first_b run meets; d = rw none at d; lists = open_lists }

pub met_agreed : (run : List Log) (lines : List Numbering) (view : View) (accepted : Accepted) → IsRun run → Certified run lines → IsViewOf run view → Agree view.observed.items
    → ListsOpen run accepted → IsMet run accepted
met_agreed run lines view accepted is certified seen agree open_lists =
    met_last run [] accepted seen.meets refl (lists_none run is (configurations run lines view.observed.items view.pending.items certified seen agree)) open_lists

-- the result for a certified run: a yes
pub accepted : (run : List Log) (lines : List Numbering) (open_lists : Accepted) → Certified run lines → IsMet run open_lists → Checks run lines (Ok open_lists)
accepted run lines open_lists c met =
    (record { certified = c; meets = synchronous run lines (meets_passes run met.a met.b) c (meets_configurations run met.d) }, met.lists)
