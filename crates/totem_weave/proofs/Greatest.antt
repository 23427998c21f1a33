-- If no member can continue, no member has got further in any other weave.
use Rattle.totem_weave.proofs.Common.{nat_tests, common_steps, ◌≡◌, ℕ, ◌+◌, ◌==◌, ◌<◌, ◌≤◌, inl, inr, List, [], ◌∷◌, ◌++◌, length, slice_get, true, false, Some, refl, sym, ◌∙◌, ap, append_assoc, append-nil, arith, Contains, cases_lt, eq-eqb, RingName, Packet, Act, RingMove, World, start, happens, run, IsSchedule, IsPrefixOf, one_order_holds, own_start, with_acts, acts_of, own_of, CanAct, NoneRefused, IsWeave, IsStuck, IsWhole, next_step, StuckIsGreatest, LeftIsOrphan, WholeIsFound, WholeIsOneOrder, up_of}
use Rattle.totem_ring.proofs.Prefixes.{one_begins, slice_get-append}
use Rattle.totem_weave.proofs.OwnActs.{in_longer, own_sent_grows_holds, state_is_own_holds, sent_by_all}
use Rattle.totem_weave.proofs.OthersActs.{members-run, can_still_act}

-- two lists, one of which begins the other and is no shorter, are equal
pub same_from_length : {X : Type 0} (xs ys : List X) → IsPrefixOf xs ys → length ys ≤ length xs → xs ≡ ys
same_from_length xs ys ([], e) le = sym (append-nil xs) ∙ e
same_from_length xs ys (r ∷ rest, e) le = grind (arith, common_steps)

-- of two lists that begin a third the shorter one begins the other
shorter_begins : {X : Type 0} (xs ys zs : List X) → IsPrefixOf xs zs → IsPrefixOf ys zs → length xs ≤ length ys → IsPrefixOf xs ys
shorter_begins xs ys zs p q le = elim (one_begins xs ys zs p q) [
  | inl begins ↦ begins
  | inr begins ↦ ([], append-nil xs ∙ sym (same_from_length ys xs begins le))
]

front_begins : {X : Type 0} (xs ys zs : List X) → IsPrefixOf (xs ++ ys) zs → IsPrefixOf xs zs
front_begins xs ys zs (rest, e) = (ys ++ rest, sym (append_assoc xs ys rest) ∙ e)

slice_get-length : {X : Type 0} (xs ys : List X) (y : X) → slice_get (xs ++ y ∷ ys) (length xs) ≡ Some y
slice_get-length [] ys y = refl
slice_get-length (x ∷ xs) ys y = slice_get-length xs ys y

-- what follows a prefix
next_of_front : {X : Type 0} (xs ys zs : List X) (y : X) → IsPrefixOf (xs ++ y ∷ ys) zs → slice_get zs (length xs) ≡ Some y
next_of_front xs ys zs y (rest, e) = rw (← e) (slice_get-append (xs ++ y ∷ ys) rest (length xs) y (slice_get-length xs ys y))

pub acts_of-append : (p : ℕ) (xs ys : List RingMove) → acts_of p (xs ++ ys) ≡ acts_of p xs ++ acts_of p ys
acts_of-append p [] ys = refl
acts_of-append p (x ∷ xs) ys = grind (arith, acts_of-append p xs ys)

-- a member's own move is one of its acts
pub acts_of-own : (p : ℕ) (move : RingMove) (moves : List RingMove) → (p == move.proc) ≡ true → acts_of p (move ∷ moves) ≡ move.act ∷ acts_of p moves
acts_of-own p move moves is = rw is

-- in a schedule without refusals each move can be taken in its turn
can_act_then : (w : World) (done rest : List RingMove) (move : RingMove) → IsSchedule w (done ++ move ∷ rest) → NoneRefused w (done ++ move ∷ rest) → CanAct (run w done) move.proc move.act
can_act_then w [] rest move is none = record { member = is.0; comes = is.1; taken = none.0 }
can_act_then w (m ∷ done) rest move is none = can_act_then (happens w m) done rest move is.2 none.1

-- where each member's acts begin those of other moves, all that was sent was sent in those too
sent_in_more : (ring : RingName) (members : List ℕ) (few many : List RingMove) → ((p : ℕ) → IsPrefixOf (acts_of p few) (acts_of p many))
    → (x : Packet) → Contains (run (start ring members) few).sent x → Contains (run (start ring members) many).sent x
sent_in_more ring members few many begins x c =
    let in_few = sent_by_all ring members few in
    let in_many = sent_by_all ring members many in
    elim (in_few.by x c) [
      | inl first ↦ in_many.of_first x first
      | inr found ↦ in_many.of_own found.0 x (own_in_more found.0 x found.1)
    ]
  where
    own_in_more : (p : ℕ) (x : Packet) → Contains (own_of ring members few p).sent x → Contains (own_of ring members many p).sent x
    own_in_more p x c = grown (acts_of p many) (begins p)
      where
        grown : (acts : List Act) → IsPrefixOf (acts_of p few) acts → Contains (with_acts (own_start ring members p) acts).sent x
        grown acts (more, e) = rw (← e) (in_longer (own_of ring members few p).sent _ x (own_sent_grows_holds (own_start ring members p) (acts_of p few) more) c)

-- the same acts of a member bring it to the same state
same_acts : (ring : RingName) (members : List ℕ) (some others : List RingMove) (p : ℕ) → acts_of p some ≡ acts_of p others
    → (run (start ring members) some).state p ≡ (run (start ring members) others).state p
same_acts ring members some others p same =
    (state_is_own_holds ring members some p).state
    ∙ ap (λ acts. (with_acts (own_start ring members p) acts).state) same
    ∙ sym (state_is_own_holds ring members others p).state

-- no further after one move more
one_further : (ring : RingName) (members : List ℕ) (steps_at : ℕ → List Act) (stuck done rest : List RingMove) (move : RingMove)
    → IsWeave (start ring members) steps_at stuck → IsStuck (start ring members) steps_at stuck
    → IsWeave (start ring members) steps_at (done ++ move ∷ rest)
    → ((p : ℕ) → length (acts_of p done) ≤ length (acts_of p stuck))
    → length (acts_of move.proc done) < length (acts_of move.proc stuck)
one_further ring members steps_at stuck done rest move most is_stuck other h = elim (cases_lt (length (acts_of move.proc done)) (length (acts_of move.proc stuck))) [
  | inl lt ↦ lt
  | inr ge ↦ stopped (same_from_length (acts_of move.proc done) (acts_of move.proc stuck) (begins move.proc) ge)
]
  where
    begins : (p : ℕ) → IsPrefixOf (acts_of p done) (acts_of p stuck)
    begins p =
        shorter_begins (acts_of p done) (acts_of p stuck) (steps_at p)
        (front_begins (acts_of p done) (acts_of p (move ∷ rest)) (steps_at p) (rw (← acts_of-append p done (move ∷ rest)) (other.begins p)))
        (most.begins p) (h p)

    its_steps : acts_of move.proc (done ++ move ∷ rest) ≡ acts_of move.proc done ++ move.act ∷ acts_of move.proc rest
    its_steps = acts_of-append move.proc done (move ∷ rest) ∙ ap (λ acts. acts_of move.proc done ++ acts) (acts_of-own move.proc move rest (eq-eqb move.proc move.proc refl))

    next : acts_of move.proc done ≡ acts_of move.proc stuck → next_step steps_at stuck move.proc ≡ Some move.act
    next same = rw (← same) (next_of_front (acts_of move.proc done) (acts_of move.proc rest) (steps_at move.proc) move.act (rw (← its_steps) (other.begins move.proc)))

    can_act_there : acts_of move.proc done ≡ acts_of move.proc stuck → CanAct (run (start ring members) stuck) move.proc move.act
    can_act_there same =
        can_still_act (run (start ring members) done) (run (start ring members) stuck) move.proc move.act
        (members-run (start ring members) stuck ∙ sym (members-run (start ring members) done))
        (sent_in_more ring members done stuck begins)
        (sym (same_acts ring members done stuck move.proc same))
        (can_act_then (start ring members) done rest move other.is_schedule other.none_refused)

    stopped : acts_of move.proc done ≡ acts_of move.proc stuck → length (acts_of move.proc done) < length (acts_of move.proc stuck)
    stopped same = absurd (is_stuck move.proc move.act (next same) (can_act_there same))

-- one move more is one act more for its member, and none for another
length-one_more : (p : ℕ) (done : List RingMove) (move : RingMove) (bound : ℕ) → length (acts_of p done) ≤ bound → (p ≡ move.proc → length (acts_of p done) < bound) → length (acts_of p (done ++ move ∷ [])) ≤ bound
length-one_more p done move bound le further = rw (acts_of-append p done (move ∷ [])) (grind (arith, nat_tests, common_steps))

-- move by move
none_further : (ring : RingName) (members : List ℕ) (steps_at : ℕ → List Act) (stuck done rest : List RingMove)
    → IsWeave (start ring members) steps_at stuck → IsStuck (start ring members) steps_at stuck
    → IsWeave (start ring members) steps_at (done ++ rest)
    → ((p : ℕ) → length (acts_of p done) ≤ length (acts_of p stuck))
    → (p : ℕ) → length (acts_of p (done ++ rest)) ≤ length (acts_of p stuck)
none_further ring members steps_at stuck done [] most is_stuck other h p = rw append-nil (h p)
none_further ring members steps_at stuck done (move ∷ rest) most is_stuck other h p =
    rw (← append_assoc done (move ∷ []) rest)
    (
    none_further ring members steps_at stuck (done ++ move ∷ []) rest most is_stuck (rw (append_assoc done (move ∷ []) rest) other)
    (λ q. length-one_more q done move (length (acts_of q stuck)) (h q) (λ same. rw same (one_further ring members steps_at stuck done rest move most is_stuck other h)))
    p
    )

pub stuck_is_greatest_holds : StuckIsGreatest
stuck_is_greatest_holds ring members steps_at stuck other most is_stuck is p = none_further ring members steps_at stuck [] other most is_stuck is (λ q. omega arith) p

pub left_is_orphan_holds : LeftIsOrphan
left_is_orphan_holds ring members steps_at stuck other p act most is_stuck left is further =
    let no_further = stuck_is_greatest_holds ring members steps_at stuck other most is_stuck is p in
    omega (arith, no_further)

pub whole_is_found_holds : WholeIsFound
whole_is_found_holds ring members steps_at stuck other most is_stuck is whole p =
    same_from_length (acts_of p stuck) (steps_at p) (most.begins p)
    (rw (← whole p) (stuck_is_greatest_holds ring members steps_at stuck other most is_stuck is p))

-- what a member delivered is what its own steps delivered
up_is : (ring : RingName) (members : List ℕ) (steps_at : ℕ → List Act) (moves : List RingMove) (p : ℕ) → IsWhole steps_at moves → (run (start ring members) moves).up p ≡ up_of ring members steps_at p
up_is ring members steps_at moves p whole = (state_is_own_holds ring members moves p).up ∙ ap (λ acts. (with_acts (own_start ring members p) acts).up) (whole p)

pub whole_is_one_order_holds : WholeIsOneOrder
whole_is_one_order_holds ring members steps_at moves is whole p q p_in q_in =
    rw (← up_is ring members steps_at moves p whole, ← up_is ring members steps_at moves q whole)
    ((one_order_holds ring members moves is.is_schedule).one_prefix p q (rw members-run p_in) (rw members-run q_in))
