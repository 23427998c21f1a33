-- What the members' tracks deliver is what the members deliver in a weave that has all of the tracks.
use Rattle.totem_weave.proofs.Common.{◌≡◌, ℕ, suc, List, [], ◌∷◌, map, zip, slice_get, Some, refl, sym, ◌∙◌, ap, IsStrictlyIncreasing, RingName, id_of, Message, Act, RingMove, start, run, ids_of, Closed, own_start, with_acts, acts_of, recorded, recorded_of, AreTracksOf, up_by, up_of_tracks, handed_by, arith}
use Rattle.totem_weave.specs.declared.track.Track.{Track}
use Rattle.totem_weave.proofs.OwnActs.{state_is_own_holds}
use Rattle.totem_weave.proofs.RecordedOf.{recorded_at}

-- a member, with the messages that the acts in its book deliver
abbrev recorded_up : RingName → List Closed → List ℕ → ℕ → ℕ × List Message
recorded_up ring books ids p = (p, (with_acts (own_start ring ids (id_of p)) (recorded ring books p)).up)

-- a member, with the messages that it delivered by the end of these moves
abbrev moved_up : RingName → List RingMove → List ℕ → ℕ → ℕ × List Message
moved_up ring moves ids p = (p, (run (start ring ids) moves).up (id_of p))

ups_recorded : (ring : RingName) (books : List Closed) (ids members : List ℕ) (tracks : List Track) → AreTracksOf ring books members tracks
    → map (up_by ring ids) (zip members tracks) ≡ map (recorded_up ring books ids) members
ups_recorded ring books ids [] [] are = refl
ups_recorded ring books ids (p ∷ members) [] are = absurd cc
ups_recorded ring books ids [] (t ∷ tracks) are = absurd cc
ups_recorded ring books ids (p ∷ members) (t ∷ tracks) are = grind (arith, ups_recorded ring books ids members tracks)

same_map : {X Y : Type 0} (g h : X → Y) (xs : List X) → ((k : ℕ) (x : X) → slice_get xs k ≡ Some x → g x ≡ h x) → map g xs ≡ map h xs
same_map g h [] same = refl
same_map g h (x ∷ xs) same = rw (same 0 x refl, same_map g h xs (λ k y at. same (suc k) y at))

pub handed_is : (ring : RingName) (books : List Closed) (members : List ℕ) (tracks : List Track) (moves : List RingMove) → IsStrictlyIncreasing (ids_of members)
    → AreTracksOf ring books members tracks → ((id : ℕ) → acts_of id moves ≡ recorded_of ring books members id) → up_of_tracks ring members tracks ≡ handed_by ring members moves
handed_is ring books members tracks moves rising are whole =
    ups_recorded ring books (ids_of members) members tracks are
    ∙ same_map (recorded_up ring books (ids_of members)) (moved_up ring moves (ids_of members)) members (λ k p at. ap (λ (up : List Message). (p, up)) (up_there k p at))
  where
    up_there : (k p : ℕ) → slice_get members k ≡ Some p → (with_acts (own_start ring (ids_of members) (id_of p)) (recorded ring books p)).up ≡ (run (start ring (ids_of members)) moves).up (id_of p)
    up_there k p at =
        let acts : recorded ring books p ≡ acts_of (id_of p) moves = sym (whole (id_of p) ∙ recorded_at ring books members k p rising at) in
        ap (λ (acts : List Act). (with_acts (own_start ring (ids_of members) (id_of p)) acts).up) acts ∙ sym (state_is_own_holds ring (ids_of members) moves (id_of p)).up
