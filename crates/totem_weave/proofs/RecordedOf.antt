-- The ring knows its members by identifier: what is recorded of an identifier is what the book of its member's life reports.
use Rattle.totem_weave.proofs.Common.{nat_tests, cond_both, ◌≡◌, ℕ, zero, suc, ◌==◌, ◌<◌, ◌⊎◌, inl, inr, List, [], ◌∷◌, map, length, slice_get, Some, refl, sym, ◌∙◌, ap, eqb-true, arith, Contains, IsStrictlyIncreasing, length-map, Contains-append_right, RingName, id_of, Act, ids_of, Closed, recorded, recorded_of, AreTracksOf}
use Rattle.totem_weave.specs.declared.track.Track.{Track}
use Rattle.totem_weave.proofs.RisingIds.{rises, id_at}
use Rattle.totem_weave.proofs.TracksOf.{SayOf, OfMembers}

-- the first member of an identifier is the one that is meant
recorded_of_first : (ring : RingName) (books : List Closed) (members : List ℕ) (k p : ℕ) → slice_get members k ≡ Some p
    → ((j q : ℕ) → j < k → slice_get members j ≡ Some q → id_of q < id_of p) → recorded_of ring books members (id_of p) ≡ recorded ring books p
recorded_of_first ring books [] k p at below = absurd cc
recorded_of_first ring books (q ∷ members) zero p at below = grind (arith, nat_tests)
recorded_of_first ring books (q ∷ members) (suc k) p at below =
    grind (arith, nat_tests, below 0 q (omega arith) refl, recorded_of_first ring books members k p at (λ j r lt at_j. below (suc j) r (omega arith) at_j))

-- what is recorded of a member's identifier is what is recorded of the member
pub recorded_at : (ring : RingName) (books : List Closed) (members : List ℕ) (k p : ℕ) → IsStrictlyIncreasing (ids_of members) → slice_get members k ≡ Some p
    → recorded_of ring books members (id_of p) ≡ recorded ring books p
recorded_at ring books members k p rising at =
    recorded_of_first ring books members k p at (λ j q lt at_j. rises (ids_of members) j k (id_of q) (id_of p) rising (id_at members j q at_j) (id_at members k p at) lt)

-- who is no member recorded nothing
pub recorded_of_members : (ring : RingName) (books : List Closed) (members : List ℕ) → OfMembers (recorded_of ring books members) (ids_of members)
recorded_of_members ring books [] id = inl refl
recorded_of_members ring books (p ∷ members) id =
    cond_both (id == id_of p) _ _ (λ acts. (acts ≡ []) ⊎ Contains (ids_of (p ∷ members)) id) (λ is. inr (0, omega arith, sym (eqb-true id (id_of p) is)))
    (λ other. elim (recorded_of_members ring books members id) [ inl none ↦ inl none | inr member ↦ inr (Contains-append_right (id_of p ∷ []) (ids_of members) id member) ])

-- what is said of each member is said of its identifier
by_ids : (f g : ℕ → List Act) (members : List ℕ) → ((k p : ℕ) → slice_get members k ≡ Some p → f (id_of p) ≡ g p)
    → map {B = ℕ × List Act} (λ p. (id_of p, g p)) members ≡ map {B = ℕ × List Act} (λ id. (id, f id)) (ids_of members)
by_ids f g [] each = refl
by_ids f g (p ∷ members) each = rw (each 0 p refl, by_ids f g members (λ k q at. each (suc k) q at))

-- the tracks of books say of each identifier what is recorded of it
pub tracks_say : (ring : RingName) (books : List Closed) (members : List ℕ) (tracks : List Track) → IsStrictlyIncreasing (ids_of members) → AreTracksOf ring books members tracks
    → SayOf (recorded_of ring books members) (ids_of members) tracks
tracks_say ring books members tracks rising are =
    are ∙ by_ids (recorded_of ring books members) (recorded ring books) members (λ k p at. recorded_at ring books members k p rising at)

pub as_many : (ring : RingName) (books : List Closed) (members : List ℕ) (tracks : List Track) → AreTracksOf ring books members tracks → length tracks ≡ length members
as_many ring books members tracks are =
    sym (length-map {B = ℕ × List Act} tracks (λ (t : Track). (t.proc, t.acts.items))) ∙ ap length are ∙ length-map {B = ℕ × List Act} members (λ (p : ℕ). (id_of p, recorded ring books p))

-- this is the member's track
pub record IsTrackOf (ring : RingName) (books : List Closed) (p : ℕ) (t : Track) : Type 0 where
  pub proc : t.proc ≡ id_of p
  pub acts : t.acts.items ≡ recorded ring books p

-- a member and the track at its place
pub track_at : (ring : RingName) (books : List Closed) (members : List ℕ) (tracks : List Track) (k p : ℕ) (t : Track) → AreTracksOf ring books members tracks
    → slice_get members k ≡ Some p → slice_get tracks k ≡ Some t → IsTrackOf ring books p t
track_at ring books [] tracks k p t are at_p at_t = absurd cc
track_at ring books (q ∷ members) [] k p t are at_p at_t = absurd cc
track_at ring books (q ∷ members) (u ∷ tracks) zero p t are at_p at_t = grind arith
track_at ring books (q ∷ members) (u ∷ tracks) (suc k) p t are at_p at_t = grind (arith, track_at ring books members tracks k p t)
