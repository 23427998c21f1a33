-- Tracks that say of each member, in order, what a function says of it.
use Rattle.totem_weave.proofs.Common.{◌≡◌, ℕ, zero, suc, ◌<◌, ◌⊎◌, inl, inr, List, [], ◌∷◌, map, length, slice_get, Some, refl, sym, ◌∙◌, ap, subst, arith, Contains, IsStrictlyIncreasing, cases_lt, cases_eq, length-map, slice_get_within, slice_get_cases, get_or_from_slice_get, slice_get-map, RingName, Act, RingMove, start, run, IsSchedule, IsPrefixOf, acts_of, CanAct, NoneRefused, IsWeave, IsStuck, procs_of, steps_of, AreApart, start_of, IsUnderWay, IsThrough, IsFirstLeft}
use Rattle.totem_weave.specs.declared.track.Track.{Track}
use Rattle.totem_weave.specs.declared.weaver.Weaver.{Weaver}
use Rattle.totem_weave.proofs.RisingIds.{rises}
use Rattle.totem_weave.proofs.Underway.{steps_of-at, track_or_none}

-- each track has its member and what is said of it
abbrev pub SayOf : (ℕ → List Act) → List ℕ → List Track → Type 0
SayOf f members tracks = map {B = ℕ × List Act} (λ t. (t.proc, t.acts.items)) tracks ≡ map {B = ℕ × List Act} (λ p. (p, f p)) members

-- the members and what is said of them, by the tracks' places
pub record IsSaid (f : ℕ → List Act) (members : List ℕ) (tracks : List Track) : Type 0 where
  pub procs : procs_of tracks ≡ members
  pub acts : (k : ℕ) (t : Track) → slice_get tracks k ≡ Some t → t.acts.items ≡ f t.proc

pub is_said : (f : ℕ → List Act) (members : List ℕ) (tracks : List Track) → SayOf f members tracks → IsSaid f members tracks
is_said f [] [] e = record { procs = refl; acts = λ k t at. absurd cc }
is_said f (p ∷ ps) [] e = absurd cc
is_said f [] (t ∷ ts) e = absurd cc
is_said f (p ∷ ps) (t ∷ ts) e =
    let first : ◌≡◌ {A = ℕ × List Act} (t.proc, t.acts.items) (p, f p) = cc in
    let others : SayOf f ps ts = cc in
    let rest = is_said f ps ts others in
    record { procs = grind arith; acts = said rest first }
  where
    said : IsSaid f ps ts → ◌≡◌ {A = ℕ × List Act} (t.proc, t.acts.items) (p, f p) → (k : ℕ) (u : Track) → slice_get (t ∷ ts) k ≡ Some u → u.acts.items ≡ f u.proc
    said rest first zero u at = grind arith
    said rest first (suc k) u at = rest.acts k u at

proc_at : (tracks : List Track) (k : ℕ) (t : Track) → slice_get tracks k ≡ Some t → slice_get (procs_of tracks) k ≡ Some t.proc
proc_at tracks k t at = slice_get-map (λ (u : Track). u.proc) tracks k ∙ rw at refl

-- of ascending members the one in front is the lesser
pub rises_at : (tracks : List Track) (j k : ℕ) (t u : Track) → IsStrictlyIncreasing (procs_of tracks) → slice_get tracks j ≡ Some t → slice_get tracks k ≡ Some u → j < k → t.proc < u.proc
rises_at tracks j k t u rising at_j at_k lt = rises (procs_of tracks) j k t.proc u.proc rising (proc_at tracks j t at_j) (proc_at tracks k u at_k) lt

pub rising_are_apart : (tracks : List Track) → IsStrictlyIncreasing (procs_of tracks) → AreApart tracks
rising_are_apart tracks rising j k t u at_j at_k same = grind (arith, rises_at tracks j k t u rising at_j at_k, rises_at tracks k j u t rising at_k at_j)

-- a member has its track
track_of_member : (tracks : List Track) (p : ℕ) → Contains (procs_of tracks) p → (k : ℕ) × (t : Track) × (slice_get tracks k ≡ Some t) × (p ≡ t.proc)
track_of_member tracks p (k, within, is) = elim (slice_get_cases tracks k).1 [
  | inl (t, lt, at, read) ↦ (k, t, at, sym is ∙ get_or_from_slice_get (procs_of tracks) k t.proc p (proc_at tracks k t at))
  | inr (past, none) ↦ (let long : length (procs_of tracks) ≡ length tracks = length-map tracks (λ (t : Track). t.proc) in absurd (omega (arith, long, past, within)))
]

-- what is said of others is nothing
abbrev pub OfMembers : (ℕ → List Act) → List ℕ → Type 0
OfMembers f members = (p : ℕ) → (f p ≡ []) ⊎ Contains members p

-- what the tracks say is what is said
pub steps_are : (f : ℕ → List Act) (members : List ℕ) (tracks : List Track) → IsSaid f members tracks → AreApart tracks → OfMembers f members → (p : ℕ) → steps_of tracks p ≡ f p
steps_are f members tracks said apart others p = elim (others p) [
  | inr member ↦ here (track_of_member tracks p (rw said.procs member))
  | inl nothing ↦ elim (track_or_none tracks p) [ inl found ↦ here found | inr none ↦ none ∙ sym nothing ]
]
  where
    here : ((k : ℕ) × (t : Track) × (slice_get tracks k ≡ Some t) × (p ≡ t.proc)) → steps_of tracks p ≡ f p
    here (k, t, at, same) = rw same (steps_of-at tracks k t apart at ∙ said.acts k t at)

pub weave_is : (ring : RingName) (f : ℕ → List Act) (members : List ℕ) (tracks : List Track) (moves : List RingMove) → procs_of tracks ≡ members → ((p : ℕ) → steps_of tracks p ≡ f p)
    → IsWeave (start_of ring tracks) (steps_of tracks) moves → IsWeave (start ring members) f moves
weave_is ring f members tracks moves procs steps h = record {
  is_schedule = subst (λ ps. IsSchedule (start ring ps) moves) procs h.is_schedule;
  none_refused = subst (λ ps. NoneRefused (start ring ps) moves) procs h.none_refused;
  begins = λ p. rw (← steps p) (h.begins p);
}

pub stuck_is : (ring : RingName) (f : ℕ → List Act) (members : List ℕ) (tracks : List Track) (moves : List RingMove) → procs_of tracks ≡ members → ((p : ℕ) → steps_of tracks p ≡ f p)
    → IsStuck (start_of ring tracks) (steps_of tracks) moves → IsStuck (start ring members) f moves
stuck_is ring f members tracks moves procs steps h p act next can =
    h p act (ap (λ acts. slice_get acts (length (acts_of p moves))) (steps p) ∙ next) (subst (λ ps. CanAct (run (start ring ps) moves) p act) (sym procs) can)

begins_none : {X : Type 0} (xs : List X) → IsPrefixOf xs [] → xs ≡ []
begins_none [] begins = refl
begins_none (x ∷ xs) (rest, e) = absurd cc

-- who has no track has done nothing
none_done : (tracks : List Track) (w : Weaver) (p : ℕ) → IsUnderWay tracks w → steps_of tracks p ≡ [] → acts_of p w.moves.items ≡ steps_of tracks p
none_done tracks w p h none = begins_none (acts_of p w.moves.items) (rw (← none) (h.weave.begins p)) ∙ sym none

-- where each member is through, all is done
pub all_done : (tracks : List Track) (w : Weaver) → AreApart tracks → IsUnderWay tracks w → ((k : ℕ) → k < length tracks → IsThrough tracks w k)
    → (p : ℕ) → acts_of p w.moves.items ≡ steps_of tracks p
all_done tracks w apart h through p = elim (track_or_none tracks p) [
  | inl (k, t, at, same) ↦ rw same (through k (slice_get_within tracks k t at) t at ∙ sym (steps_of-at tracks k t apart at))
  | inr none ↦ none_done tracks w p h none
]

-- who is below the first that has steps left is through
pub done_before : (tracks : List Track) (w : Weaver) (place : ℕ) (t : Track) → IsStrictlyIncreasing (procs_of tracks) → IsUnderWay tracks w → IsFirstLeft tracks w place
    → slice_get tracks place ≡ Some t → (p : ℕ) → p < t.proc → acts_of p w.moves.items ≡ steps_of tracks p
done_before tracks w place t rising h first at p below = elim (track_or_none tracks p) [
  | inl (k, u, at_k, same) ↦ elim (cases_lt k place) [
    | inl lt ↦ rw same (first.before k lt u at_k ∙ sym (steps_of-at tracks k u (rising_are_apart tracks rising) at_k))
    | inr ge ↦ elim (cases_eq k place) [
      | inl here ↦ (
          let both : Some u ≡ Some t = sym at_k ∙ rw here at in
          let proc : u.proc ≡ t.proc = cc in
          absurd (omega (arith, below, same, proc))
          )
      | inr other ↦ (let less = rises_at tracks place k t u rising at at_k (omega arith) in absurd (omega (arith, below, same, less)))
    ]
  ]
  | inr none ↦ none_done tracks w p h none
]
