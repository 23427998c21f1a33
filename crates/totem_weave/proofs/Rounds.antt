-- A round of the members.
use Rattle.totem_weave.proofs.Common.{◌≡◌, ℕ, ◌+◌, ◌<◌, ◌≤◌, ◌||◌, inl, inr, List, [], length, Bool, true, false, refl, sym, ◌∙◌, ap, subst, arith, cases_eq, length-map, slice_get-map, RingName, RingMove, first_token, new_ring, first_seats, IsHeldUpAt, IsUnderWay, Steps, GoesRound, procs_of, steps_of, IsEmpty, Puts}
use Rattle.totem_packets.specs.declared.packet.Packet.TheVariants.{Token as AToken}
use Rattle.totem_weave.specs.declared.track.Track.{Track}
use Rattle.totem_weave.specs.declared.weaver.Weaver.{Weaver}
use Rattle.totem_weave.specs.declared.seat.Seat.{Seat}
use Rattle.totem_weave.specs.declared.sent.Sent.{Sent}
use Rattle.totem_weave.proofs.Indexing.{sent_are_one, index_first}
use Rattle.totem_weave.proofs.Underway.{all_held_up}

-- some member took a step, or none before this place can
pub record NoneYet (tracks : List Track) (old new : Weaver) (place : ℕ) : Type 0 where
  pub no_less : length old.moves.items ≤ length new.moves.items
  pub held_up : (k : ℕ) → k < place → IsHeldUpAt new.ring tracks new.moves.items k

abbrev pub RoundSoFar : List Track → Weaver → Weaver → ℕ → Bool → Type 0
RoundSoFar tracks old new place true = length old.moves.items < length new.moves.items
RoundSoFar tracks old new place false = NoneYet tracks old new place

-- the member of a place took a step, or nothing moved
abbrev pub AdvancedSoFar : Weaver → Weaver → Bool → Type 0
AdvancedSoFar old new true = length old.moves.items < length new.moves.items
AdvancedSoFar old new false = new.moves.items ≡ old.moves.items

pub round_more : (tracks : List Track) (old now new : Weaver) (place : ℕ) (moved stepped : Bool) → new.ring ≡ now.ring → RoundSoFar tracks old now place moved → Steps tracks place now new stepped
    → RoundSoFar tracks old new (place + 1) (moved || stepped)
round_more tracks old now new place true true ring so_far more = omega arith
round_more tracks old now new place true false ring so_far same = let count : length new.moves.items ≡ length now.moves.items = ap length same.0 in omega arith
round_more tracks old now new place false true ring so_far more = let le : length old.moves.items ≤ length now.moves.items = so_far.no_less in omega arith
round_more tracks old now new place false false ring so_far same = record {
  no_less = let count : length new.moves.items ≡ length now.moves.items = ap length same.0 in let le : length old.moves.items ≤ length now.moves.items = so_far.no_less in omega arith;
  held_up = λ k below. elim (cases_eq k place) [
    | inl here ↦ (let P : ℕ → Type 0 = λ n. IsHeldUpAt new.ring tracks new.moves.items n in subst P (sym here) same.1)
    | inr other ↦ (
        let before : k < place = omega arith in
        let P : RingName → Type 0 = λ r. IsHeldUpAt r tracks now.moves.items k in
        let Q : List RingMove → Type 0 = λ ms. IsHeldUpAt new.ring tracks ms k in
        subst Q (sym same.0) (subst P (sym ring) (so_far.held_up k before))
        )
  ];
}

pub round_ends : (tracks : List Track) (old new : Weaver) (place : ℕ) (moved : Bool) → place ≡ length tracks → RoundSoFar tracks old new place moved → GoesRound tracks old new moved
round_ends tracks old new place true all so_far = so_far
round_ends tracks old new place false all so_far = all_held_up new.ring tracks new.moves.items (λ k below. so_far.held_up k (omega arith))

abbrev seat_at : RingName → List Track → Track → Seat
seat_at ring tracks t = record { state = new_ring t.proc ring (procs_of tracks); next = 0 }

-- at the start
pub under_way_at_start : (ring : RingName) (tracks : List Track) (w : Weaver) → w.ring ≡ ring → w.seats.items ≡ first_seats ring (procs_of tracks) tracks
    → (blank : Sent) → IsEmpty blank → Puts blank w.sent (AToken (first_token ring)) → w.moves.items ≡ [] → IsUnderWay tracks w
under_way_at_start ring tracks w same seats blank empty puts moves = record {
  weave = rw moves (record { is_schedule = tt; none_refused = tt; begins = λ p. (steps_of tracks p, refl) });
  count = ap length seats ∙ length-map tracks (seat_at ring tracks);
  seats = λ k t at. rw (seats, same, moves) (slice_get-map (seat_at ring tracks) tracks k ∙ rw at refl);
  sent = rw (same, moves) (index_first (AToken (first_token ring)) blank w.sent empty puts (sent_are_one ring (procs_of tracks) [] tt));
}
