-- A weave with one more move.
use Rattle.totem_weave.proofs.Common.{nat_tests, common_steps, ◌≡◌, ◌≢◌, ℕ, zero, suc, ◌+◌, ◌==◌, ◌<◌, ◌≤◌, ◌⊎◌, inl, inr, List, [], ◌∷◌, ◌++◌, map, set, length, get_or, slice_get, Bool, true, false, if◌then◌else◌, Option, Some, None, Result, Ok, Err, refl, sym, ◌∙◌, ap, subst, append-nil, eqb-true, arith, Contains, IsOk, cases_eq, eq-eqb, ne_eqb, length-set, length_push, slice_get_read, slice_get_within, get_or_from_slice_get, slice_get-get_or, slice_get-map, RingName, Packet, RingFault, RingOut, Act, RingMove, Ring, Done, act_on, World, happens, world_after, run, MayCome, IsSchedule, IsPrefixOf, Sending, acts_of, CanAct, NoneRefused, IsWeave, IsStuck, next_step, AreOne, IsIndexOf, AddsAll, IsTaken, IsHeldUp, TakesNext, procs_of, steps_of, AreApart, start_of, seat_after, IsUnderWay, IsHeldUpAt, IsThrough, IsFirstLeft}
use Rattle.totem_ring.proofs.Prefixes.{goes_on}
use Rattle.totem_weave.specs.declared.track.Track.{Track}
use Rattle.totem_weave.specs.declared.seat.Seat.{Seat}
use Rattle.totem_weave.specs.declared.weaver.Weaver.{Weaver}
use Rattle.totem_weave.specs.declared.sent.Sent.{Sent}
use Rattle.totem_weave.proofs.Indexing.{sent_are_one, coming_is, may_come_is}
use Rattle.totem_weave.proofs.OthersActs.{members-run}
use Rattle.totem_weave.proofs.Greatest.{same_from_length, acts_of-append}

-- one move more at the end
run-snoc : (w : World) (moves : List RingMove) (move : RingMove) → run w (moves ++ move ∷ []) ≡ happens (run w moves) move
run-snoc w [] move = refl
run-snoc w (m ∷ moves) move = run-snoc (happens w m) moves move

schedule-snoc : (w : World) (moves : List RingMove) (move : RingMove) → IsSchedule w moves → Contains (run w moves).members move.proc → MayCome (run w moves) move.act → IsSchedule w (moves ++ move ∷ [])
schedule-snoc w [] move is member may = (member, may, tt)
schedule-snoc w (m ∷ moves) move is member may = (is.0, is.1, schedule-snoc (happens w m) moves move is.2 member may)

refused-snoc : (w : World) (moves : List RingMove) (move : RingMove) → NoneRefused w moves → IsOk (act_on ((run w moves).state move.proc) move.act) → NoneRefused w (moves ++ move ∷ [])
refused-snoc w [] move none taken = (taken, tt)
refused-snoc w (m ∷ moves) move none taken = (none.0, refused-snoc (happens w m) moves move none.1 taken)

-- the steps of a track's process are its acts
pub steps_of-at : (tracks : List Track) (k : ℕ) (t : Track) → AreApart tracks → slice_get tracks k ≡ Some t → steps_of tracks t.proc ≡ t.acts.items
steps_of-at [] k t apart at = absurd cc
steps_of-at (u ∷ us) zero t apart at = grind (arith, nat_tests)
steps_of-at (u ∷ us) (suc k) t apart at =
    grind (arith, nat_tests, apart (suc k) zero t u at refl, steps_of-at us k t (λ i j v w at_i at_j same. let next : suc i ≡ suc j = apart (suc i) (suc j) v w at_i at_j same in cc) at)

-- a process has a track, or no steps
pub track_or_none : (tracks : List Track) (p : ℕ) → ((k : ℕ) × (t : Track) × (slice_get tracks k ≡ Some t) × (p ≡ t.proc)) ⊎ (steps_of tracks p ≡ [])
track_or_none [] p = inr refl
track_or_none (u ∷ us) p = go (p == u.proc) refl (track_or_none us p)
  where
    go : (b : Bool) → (p == u.proc) ≡ b → ((k : ℕ) × (t : Track) × (slice_get us k ≡ Some t) × (p ≡ t.proc)) ⊎ (steps_of us p ≡ [])
        → ((k : ℕ) × (t : Track) × (slice_get (u ∷ us) k ≡ Some t) × (p ≡ t.proc)) ⊎ ((if b then u.acts.items else steps_of us p) ≡ [])
    go true is rest = inl (zero, u, refl, eqb-true p u.proc is)
    go false is rest = elim rest [ inl (k, t, at, same) ↦ inl (suc k, t, at, same) | inr none ↦ inr none ]

member_is : (tracks : List Track) (k : ℕ) (t : Track) → slice_get tracks k ≡ Some t → Contains (procs_of tracks) t.proc
member_is tracks k t at =
    let there : slice_get (procs_of tracks) k ≡ Some t.proc = rw (slice_get-map (λ (u : Track). u.proc) tracks k, at) refl in
    (k, slice_get_within (procs_of tracks) k t.proc there, get_or_from_slice_get (procs_of tracks) k t.proc t.proc there)

slice_get-set_same : {X : Type 0} (xs : List X) (k : ℕ) (x : X) → k < length xs → slice_get (set xs k x) k ≡ Some x
slice_get-set_same xs k x lt = grind (arith, common_steps, slice_get-get_or (set xs k x) k x)

slice_get-set_other : {X : Type 0} (xs : List X) (i k : ℕ) (x y : X) → k ≢ i → slice_get xs k ≡ Some y → slice_get (set xs i x) k ≡ Some y
slice_get-set_other xs i k x y other at = grind (arith, common_steps, slice_get-get_or (set xs i x) k y, slice_get_within xs k y at, get_or_from_slice_get xs k y y at)

-- a member that can't take its next step
pub held_up_at : (tracks : List Track) (w : Weaver) (place : ℕ) (t : Track) (new : Seat) → AreApart tracks → IsUnderWay tracks w → slice_get tracks place ≡ Some t
    → IsHeldUp (seat_after w.ring tracks w.moves.items t.proc) new t.acts.items w.sent → IsHeldUpAt w.ring tracks w.moves.items place
held_up_at tracks w place t new apart h at held u act at_u next can =
    let same : u ≡ t = (let both : Some t ≡ Some u = sym at ∙ at_u in cc) in
    let P : Track → Type 0 = λ v. CanAct (run (start_of w.ring tracks) w.moves.items) v.proc act in
    let Q : Track → Type 0 = λ v. next_step (steps_of tracks) w.moves.items v.proc ≡ Some act in
    stopped (subst P same can) (subst Q same next)
  where
    stopped : CanAct (run (start_of w.ring tracks) w.moves.items) t.proc act → next_step (steps_of tracks) w.moves.items t.proc ≡ Some act → ⊥
    stopped can next = go (act_on ((run (start_of w.ring tracks) w.moves.items).state t.proc) act) refl can.taken
      where
        is_next : slice_get t.acts.items (length (acts_of t.proc w.moves.items)) ≡ Some act
        is_next = ap (λ acts. slice_get acts (length (acts_of t.proc w.moves.items))) (sym (steps_of-at tracks place t apart at)) ∙ next

        go : (r : Result Done RingFault) → act_on ((run (start_of w.ring tracks) w.moves.items).state t.proc) act ≡ r → IsOk r → ⊥
        go (Err fault) is ok = absurd cc
        go (Ok done) is ok = held.cannot act done is_next (may_come_is (run (start_of w.ring tracks) w.moves.items) w.sent act h.sent can.comes) is

-- where each member is held up the weave is stuck
pub all_held_up : (ring : RingName) (tracks : List Track) (moves : List RingMove) → ((place : ℕ) → place < length tracks → IsHeldUpAt ring tracks moves place) → IsStuck (start_of ring tracks) (steps_of tracks) moves
all_held_up ring tracks moves held p act next can = elim (track_or_none tracks p) [
  | inl (k, t, at, same) ↦ (
      let P : ℕ → Type 0 = λ q. next_step (steps_of tracks) moves q ≡ Some act in
      let Q : ℕ → Type 0 = λ q. CanAct (run (start_of ring tracks) moves) q act in
      held k (slice_get_within tracks k t at) t act at (subst P same next) (subst Q same can)
      )
  | inr none ↦ (
      let nothing : slice_get (steps_of tracks p) (length (acts_of p moves)) ≡ None = rw none refl in
      let both : None ≡ Some act = sym nothing ∙ next in
      absurd cc
      )
]

-- what is known of a member's step: it is the next one of its track, it was possible, and this is its result
record IsNext (ring : RingName) (tracks : List Track) (moves : List RingMove) (t : Track) (act : Act) (done : Done) : Type 0 where
  pub is_next : slice_get (steps_of tracks t.proc) (length (acts_of t.proc moves)) ≡ Some act
  pub member : Contains (procs_of tracks) t.proc
  pub may_come : MayCome (run (start_of ring tracks) moves) act
  pub is_done : act_on ((run (start_of ring tracks) moves).state t.proc) act ≡ Ok done

abbrev pub the_move : Track → Act → RingMove
the_move t act = record { proc = t.proc; act = act }

acts_of-mine : (p : ℕ) (moves : List RingMove) (move : RingMove) → (p == move.proc) ≡ true → acts_of p (moves ++ move ∷ []) ≡ acts_of p moves ++ move.act ∷ []
acts_of-mine p moves move is = acts_of-append p moves (move ∷ []) ∙ rw is

acts_of-theirs : (p : ℕ) (moves : List RingMove) (move : RingMove) → (p == move.proc) ≡ false → acts_of p (moves ++ move ∷ []) ≡ acts_of p moves
acts_of-theirs p moves move is = acts_of-append p moves (move ∷ []) ∙ rw is (append-nil (acts_of p moves))

weave_more : (ring : RingName) (tracks : List Track) (moves : List RingMove) (t : Track) (act : Act) (done : Done) → IsNext ring tracks moves t act done
    → IsWeave (start_of ring tracks) (steps_of tracks) moves → IsWeave (start_of ring tracks) (steps_of tracks) (moves ++ the_move t act ∷ [])
weave_more ring tracks moves t act done next h = record {
  is_schedule = schedule-snoc (start_of ring tracks) moves (the_move t act) h.is_schedule (rw (members-run (start_of ring tracks) moves) next.member) next.may_come;
  none_refused = refused-snoc (start_of ring tracks) moves (the_move t act) h.none_refused (rw next.is_done refl);
  begins = λ p. go p (p == t.proc) refl;
}
  where
    go : (p : ℕ) (b : Bool) → (p == t.proc) ≡ b → IsPrefixOf (acts_of p (moves ++ the_move t act ∷ [])) (steps_of tracks p)
    go p true is =
        let same : t.proc ≡ p = sym (eqb-true p t.proc is) in
        let P : ℕ → Type 0 = λ q. slice_get (steps_of tracks q) (length (acts_of q moves)) ≡ Some act in
        rw (acts_of-mine p moves (the_move t act) is) (goes_on (acts_of p moves) (steps_of tracks p) act (h.begins p) (subst P same next.is_next))
    go p false is = rw (acts_of-theirs p moves (the_move t act) is) (h.begins p)

happened : (ring : RingName) (tracks : List Track) (moves : List RingMove) (t : Track) (act : Act) (done : Done) → IsNext ring tracks moves t act done
    → run (start_of ring tracks) (moves ++ the_move t act ∷ []) ≡ world_after (run (start_of ring tracks) moves) t.proc act (Ok done)
happened ring tracks moves t act done next = run-snoc (start_of ring tracks) moves (the_move t act) ∙ ap (world_after (run (start_of ring tracks) moves) t.proc act) next.is_done

state_there : (w : World) (p : ℕ) (act : Act) (done : Done) → (world_after w p act (Ok done)).state p ≡ done.state
state_there w p act done = ap (λ (b : Bool). if b then done.state else w.state p) (eq-eqb p p refl)

state_elsewhere : (w : World) (p : ℕ) (act : Act) (done : Done) (q : ℕ) → (q == p) ≡ false → (world_after w p act (Ok done)).state q ≡ w.state q
state_elsewhere w p act done q is = ap (λ (b : Bool). if b then done.state else w.state q) is

seat_is : (seat : Seat) (state : Ring) (next : ℕ) → seat.state ≡ state → seat.next ≡ next → seat ≡ record { state = state; next = next }
seat_is seat state next same_state same_next = rw (← same_state, ← same_next)

-- its seat after the step
seat_there : (ring : RingName) (tracks : List Track) (moves : List RingMove) (t : Track) (act : Act) (done : Done) (seat : Seat) → IsNext ring tracks moves t act done
    → seat.state ≡ done.state → seat.next ≡ length (acts_of t.proc moves) + 1 → seat ≡ seat_after ring tracks (moves ++ the_move t act ∷ []) t.proc
seat_there ring tracks moves t act done seat next state moves_on =
    seat_is seat _ _
    (state ∙ sym (state_there (run (start_of ring tracks) moves) t.proc act done) ∙ ap (λ (w : World). w.state t.proc) (sym (happened ring tracks moves t act done next)))
    (moves_on ∙ sym (length_push (acts_of t.proc moves) act) ∙ ap length (sym (acts_of-mine t.proc moves (the_move t act) (eq-eqb t.proc t.proc refl))))

-- another's seat
seat_elsewhere : (ring : RingName) (tracks : List Track) (moves : List RingMove) (t : Track) (act : Act) (done : Done) (p : ℕ) → IsNext ring tracks moves t act done
    → (p == t.proc) ≡ false → seat_after ring tracks moves p ≡ seat_after ring tracks (moves ++ the_move t act ∷ []) p
seat_elsewhere ring tracks moves t act done p next other =
    seat_is (seat_after ring tracks moves p) _ _
    (sym (state_elsewhere (run (start_of ring tracks) moves) t.proc act done p other) ∙ ap (λ (w : World). w.state p) (sym (happened ring tracks moves t act done next)))
    (ap length (sym (acts_of-theirs p moves (the_move t act) other)))

seats_more : (ring : RingName) (tracks : List Track) (moves : List RingMove) (t : Track) (act : Act) (done : Done) (seat : Seat) (seats : List Seat) (place : ℕ)
    → AreApart tracks → slice_get tracks place ≡ Some t → IsNext ring tracks moves t act done
    → seat.state ≡ done.state → seat.next ≡ length (acts_of t.proc moves) + 1 → length seats ≡ length tracks
    → ((k : ℕ) (u : Track) → slice_get tracks k ≡ Some u → slice_get seats k ≡ Some (seat_after ring tracks moves u.proc))
    → (k : ℕ) (u : Track) → slice_get tracks k ≡ Some u → slice_get (set seats place seat) k ≡ Some (seat_after ring tracks (moves ++ the_move t act ∷ []) u.proc)
seats_more ring tracks moves t act done seat seats place apart at next state moves_on count h k u at_k = elim (cases_eq k place) [
  | inl here ↦ (
      let at_place : slice_get tracks place ≡ Some u = rw (← here) at_k in
      let same : t ≡ u = (let both : Some t ≡ Some u = sym at ∙ at_place in cc) in
      let lt : place < length seats = (let within : place < length tracks = slice_get_within tracks place t at in omega arith) in
      let P : Track → Type 0 = λ v. slice_get (set seats place seat) place ≡ Some (seat_after ring tracks (moves ++ the_move t act ∷ []) v.proc) in
      let there : slice_get (set seats place seat) place ≡ Some (seat_after ring tracks (moves ++ the_move t act ∷ []) t.proc) =
      slice_get-set_same seats place seat lt ∙ ap Some (seat_there ring tracks moves t act done seat next state moves_on) in
      rw here (subst P same there)
      )
  | inr other ↦
      slice_get-set_other seats place k seat (seat_after ring tracks moves u.proc) other (h k u at_k)
      ∙ ap Some (seat_elsewhere ring tracks moves t act done u.proc next (ne_eqb u.proc t.proc (λ same. other (apart k place u t at_k at same))))
]

-- a member took its next step
pub goes_on_by : (tracks : List Track) (old new : Weaver) (place : ℕ) (t : Track) (seat : Seat) (act : Act) (out : RingOut)
    → AreApart tracks → IsUnderWay tracks old → slice_get tracks place ≡ Some t
    → IsTaken (seat_after old.ring tracks old.moves.items t.proc) seat t.acts.items old.sent act out
    → new.ring ≡ old.ring → new.seats.items ≡ set old.seats.items place seat → AddsAll old.sent new.sent out.packets.items
    → new.moves.items ≡ old.moves.items ++ the_move t act ∷ []
    → IsUnderWay tracks new
goes_on_by tracks old new place t seat act out apart h at taken same_ring seats sent moves = record {
  weave = rw (same_ring, moves) (weave_more old.ring tracks old.moves.items t act taken.done next h.weave);
  count = ap length seats ∙ length-set old.seats.items place seat ∙ h.count;
  seats = λ k u at_k. rw (same_ring, moves, seats) (seats_more old.ring tracks old.moves.items t act taken.done seat old.seats.items place apart at next taken.after.state taken.moves_on h.count h.seats k u at_k);
  sent = rw (same_ring, moves) (subst (λ (xs : List Packet). IsIndexOf xs new.sent) (sym packets_are) (sent (run (start_of old.ring tracks) old.moves.items).sent (subst AreOne packets_are one) h.sent));
}
  where
    next : IsNext old.ring tracks old.moves.items t act taken.done
    next = record {
      is_next = ap (λ acts. slice_get acts (length (acts_of t.proc old.moves.items))) (steps_of-at tracks place t apart at) ∙ taken.is_next;
      member = member_is tracks place t at;
      may_come = coming_is (run (start_of old.ring tracks) old.moves.items) old.sent act h.sent taken.comes;
      is_done = taken.is_done;
    }

    packets_are : (run (start_of old.ring tracks) (old.moves.items ++ the_move t act ∷ [])).sent ≡ (run (start_of old.ring tracks) old.moves.items).sent ++ map (λ (s : Sending). s.1) out.packets.items
    packets_are =
        ap (λ (w : World). w.sent) (happened old.ring tracks old.moves.items t act taken.done next)
        ∙ ap (λ (xs : List Sending). (run (start_of old.ring tracks) old.moves.items).sent ++ map (λ (s : Sending). s.1) xs) (sym taken.after.packets)

    one : AreOne (run (start_of old.ring tracks) (old.moves.items ++ the_move t act ∷ [])).sent
    one = sent_are_one old.ring (procs_of tracks) (old.moves.items ++ the_move t act ∷ []) (weave_more old.ring tracks old.moves.items t act taken.done next h.weave).is_schedule

-- the seat that is read is the member's
seat_read : (tracks : List Track) (w : Weaver) (place : ℕ) (t : Track) (seat : Seat) → IsUnderWay tracks w → place < length tracks → slice_get tracks place ≡ Some t
    → seat ≡ get_or w.seats.items place seat → seat ≡ seat_after w.ring tracks w.moves.items t.proc
seat_read tracks w place t seat h within at is =
    let read : slice_get w.seats.items place ≡ Some seat = slice_get_read w.seats.items (length tracks) place seat (sym h.count) within is in
    let both : Some seat ≡ Some (seat_after w.ring tracks w.moves.items t.proc) = sym read ∙ h.seats place t at in
    cc

-- what taking the next act says about the weave
taking_there : (tracks : List Track) (w : Weaver) (place : ℕ) (t : Track) (seat new : Seat) (acts : List Act) (sent : Sent) (found : Option (Act × RingOut))
    → IsUnderWay tracks w → place < length tracks → slice_get tracks place ≡ Some t → seat ≡ get_or w.seats.items place seat
    → acts ≡ t.acts.items → sent ≡ w.sent → TakesNext seat new acts sent found
    → TakesNext (seat_after w.ring tracks w.moves.items t.proc) new t.acts.items w.sent found
taking_there tracks w place t seat new acts sent found h within at is acts_are sent_is takes =
    let P : Seat → Type 0 = λ s. TakesNext s new t.acts.items w.sent found in
    let Q : List Act → Type 0 = λ list. TakesNext seat new list w.sent found in
    let R : Sent → Type 0 = λ ps. TakesNext seat new acts ps found in
    subst P (seat_read tracks w place t seat h within at is) (subst Q acts_are (subst R sent_is takes))

pub held_up_here : (tracks : List Track) (w : Weaver) (place : ℕ) (t : Track) (seat new : Seat) (acts : List Act) (sent : Sent) (found : Option (Act × RingOut))
    → AreApart tracks → IsUnderWay tracks w → place < length tracks → t ≡ get_or tracks place t → seat ≡ get_or w.seats.items place seat
    → acts ≡ t.acts.items → sent ≡ w.sent → TakesNext seat new acts sent found → found ≡ None
    → IsHeldUpAt w.ring tracks w.moves.items place
held_up_here tracks w place t seat new acts sent found apart h within t_is is acts_are sent_is takes none =
    let at : slice_get tracks place ≡ Some t = slice_get_read tracks (length tracks) place t refl within t_is in
    let P : Option (Act × RingOut) → Type 0 = λ f. TakesNext (seat_after w.ring tracks w.moves.items t.proc) new t.acts.items w.sent f in
    held_up_at tracks w place t new apart h at (subst P none (taking_there tracks w place t seat new acts sent found h within at is acts_are sent_is takes))

pub goes_on_here : (tracks : List Track) (old w : Weaver) (place : ℕ) (t : Track) (seat new : Seat) (acts : List Act) (sent : Sent) (found : Option (Act × RingOut)) (act : Act) (out : RingOut)
    → AreApart tracks → IsUnderWay tracks old → place < length tracks → t ≡ get_or tracks place t → seat ≡ get_or old.seats.items place seat
    → acts ≡ t.acts.items → sent ≡ old.sent → TakesNext seat new acts sent found → found ≡ Some (act, out)
    → w.ring ≡ old.ring → w.seats.items ≡ set old.seats.items place new → AddsAll old.sent w.sent out.packets.items
    → w.moves.items ≡ old.moves.items ++ the_move t act ∷ []
    → IsUnderWay tracks w
goes_on_here tracks old w place t seat new acts sent found act out apart h within t_is is acts_are sent_is takes some same_ring seats packets moves =
    let at : slice_get tracks place ≡ Some t = slice_get_read tracks (length tracks) place t refl within t_is in
    let P : Option (Act × RingOut) → Type 0 = λ f. TakesNext (seat_after old.ring tracks old.moves.items t.proc) new t.acts.items old.sent f in
    goes_on_by tracks old w place t new act out apart h at (subst P some (taking_there tracks old place t seat new acts sent found h within at is acts_are sent_is takes)) same_ring seats packets moves

-- the seat that is read counts the acts that its member did
pub counts_there : (tracks : List Track) (w : Weaver) (place : ℕ) (t : Track) (seat : Seat) → IsUnderWay tracks w → slice_get tracks place ≡ Some t
    → seat ≡ get_or w.seats.items place seat → seat.next ≡ length (acts_of t.proc w.moves.items)
counts_there tracks w place t seat h at is = ap (λ (s : Seat). s.next) (seat_read tracks w place t seat h (slice_get_within tracks place t at) at is)

-- the track that is read is the one of this place
track_there : (tracks : List Track) (place : ℕ) (t u : Track) → place < length tracks → t ≡ get_or tracks place t → slice_get tracks place ≡ Some u → t ≡ u
track_there tracks place t u within is at =
    let both : Some t ≡ Some u = sym (slice_get_read tracks (length tracks) place t refl within is) ∙ at in cc

-- a member that has taken as many steps as its track has is through
pub through_there : (tracks : List Track) (w : Weaver) (place : ℕ) (t : Track) (seat : Seat) (acts : List Act) → AreApart tracks → IsUnderWay tracks w → place < length tracks
    → t ≡ get_or tracks place t → seat ≡ get_or w.seats.items place seat → acts ≡ t.acts.items → length acts ≤ seat.next → IsThrough tracks w place
through_there tracks w place t seat acts apart h within t_is is acts_are all u at =
    let P : Track → Type 0 = λ v. acts_of v.proc w.moves.items ≡ v.acts.items in
    subst P (track_there tracks place t u within t_is at) whole
  where
    here : slice_get tracks place ≡ Some t
    here = slice_get_read tracks (length tracks) place t refl within t_is

    whole : acts_of t.proc w.moves.items ≡ t.acts.items
    whole =
        let count = counts_there tracks w place t seat h here is in
        let begins : IsPrefixOf (acts_of t.proc w.moves.items) t.acts.items = rw (← steps_of-at tracks place t apart here) (h.weave.begins t.proc) in
        same_from_length (acts_of t.proc w.moves.items) t.acts.items begins (let long = ap length acts_are in omega (arith, count, long))

-- the first who has not has steps left
pub left_there : (tracks : List Track) (w : Weaver) (place : ℕ) (t : Track) (seat : Seat) (acts : List Act) → IsUnderWay tracks w → place < length tracks
    → t ≡ get_or tracks place t → seat ≡ get_or w.seats.items place seat → acts ≡ t.acts.items → seat.next < length acts
    → ((k : ℕ) → k < place → IsThrough tracks w k) → IsFirstLeft tracks w place
left_there tracks w place t seat acts h within t_is is acts_are less before = record {
  within = within;
  before = before;
  left = λ u at.
      let same : t ≡ u = track_there tracks place t u within t_is at in
      let P : Track → Type 0 = λ v. length (acts_of v.proc w.moves.items) < length v.acts.items in
      let count = counts_there tracks w place t seat h (at ∙ ap Some (sym same)) is in
      let long = ap length acts_are in
      subst P same (omega (arith, count, long));
}
