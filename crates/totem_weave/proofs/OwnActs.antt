-- A member is where its own acts brought it, and what was sent some member's own acts sent.
use Rattle.totem_weave.proofs.Common.{nat_tests, cond_both, ◌≡◌, ℕ, ◌==◌, ◌⊎◌, inl, inr, List, [], ◌∷◌, ◌++◌, map, false, if◌then◌else◌, Result, Ok, Err, refl, sym, ◌∙◌, ap, subst, append_assoc, append-nil, arith, Contains, eq-eqb, Contains-append_left, Contains-append_right, Contains-append_cases, Contains-push, Contains-push_cases, RingName, Packet, RingFault, Act, RingMove, Ring, first_token, Done, act_on, World, start, happens, world_after, run, IsPrefixOf, Own, own_start, own_after, with_act, with_acts, acts_of, own_of, IsAsOwn, StateIsOwn, SentIsOwn, SentGrows, OwnSentGrows, eqb-true}
use Rattle.totem_packets.specs.declared.packet.Packet.TheVariants.{Token as AToken}

-- its own move brings a member where its own act does
after : (w : World) (p : ℕ) (act : Act) (r : Result Done RingFault) (own : Own) → IsAsOwn w p own → IsAsOwn (world_after w p act r) p (own_after own act r)
after w p act (Err fault) own h = h
after w p act (Ok done) own h = grind (arith, nat_tests)

moved : (w : World) (p : ℕ) (act : Act) (own : Own) → IsAsOwn w p own → IsAsOwn (world_after w p act (act_on (w.state p) act)) p (with_act own act)
moved w p act own h =
    let P : Ring → Type 0 = λ s. IsAsOwn (world_after w p act (act_on (w.state p) act)) p (own_after own act (act_on s act)) in
    subst P h.state (after w p act (act_on (w.state p) act) own h)

-- a move of another member doesn't change this one
left : (w : World) (q : ℕ) (act : Act) (r : Result Done RingFault) (p : ℕ) (own : Own) → (p == q) ≡ false → IsAsOwn w p own → IsAsOwn (world_after w q act r) p own
left w q act (Err fault) p own other h = h
left w q act (Ok done) p own other h = grind arith

-- what a move makes of a member
abbrev after_move : Own → ℕ → RingMove → Own
after_move own p move = if p == move.proc then with_act own move.act else own

own_moved : (w : World) (move : RingMove) (p : ℕ) (own : Own) → IsAsOwn w p own → IsAsOwn (happens w move) p (after_move own p move)
own_moved w move p own h = grind (arith, nat_tests, moved w p move.act own h, left w move.proc move.act (act_on (w.state move.proc) move.act) p own)

-- the acts of one move, and then of more
one_more : (p : ℕ) (move : RingMove) (moves : List RingMove) (own : Own) → with_acts (after_move own p move) (acts_of p moves) ≡ with_acts own (acts_of p (move ∷ moves))
one_more p move moves own = grind arith

pub own_moves : (w : World) (moves : List RingMove) (p : ℕ) (own : Own) → IsAsOwn w p own → IsAsOwn (run w moves) p (with_acts own (acts_of p moves))
own_moves w [] p own h = h
own_moves w (move ∷ moves) p own h = rw (← one_more p move moves own) (own_moves (happens w move) moves p (after_move own p move) (own_moved w move p own h))

pub state_is_own_holds : StateIsOwn
state_is_own_holds ring members moves p = own_moves (start ring members) moves p (own_start ring members p) (record { state = refl; up = refl; accepted = refl })

pub begins_on : {X : Type 0} (xs ys zs : List X) → IsPrefixOf xs ys → IsPrefixOf ys zs → IsPrefixOf xs zs
begins_on xs ys zs (more, e) (rest, f) = (more ++ rest, sym (append_assoc xs more rest) ∙ ap (λ l. l ++ rest) e ∙ f)

pub begins_itself : {X : Type 0} (xs : List X) → IsPrefixOf xs xs
begins_itself xs = ([], append-nil xs)

pub in_longer : {X : Type 0} (xs ys : List X) (x : X) → IsPrefixOf xs ys → Contains xs x → Contains ys x
in_longer xs ys x (rest, e) h = rw (← e) (Contains-append_left xs rest x h)

-- the packets of a step
abbrev new_of : Result Done RingFault → List Packet
new_of (Err fault) = []
new_of (Ok done) = map (λ s. s.1) done.packets

sent-world_after : (w : World) (p : ℕ) (act : Act) (r : Result Done RingFault) → (world_after w p act r).sent ≡ w.sent ++ new_of r
sent-world_after w p act (Err fault) = sym (append-nil w.sent)
sent-world_after w p act (Ok done) = refl

sent-own_after : (own : Own) (act : Act) (r : Result Done RingFault) → (own_after own act r).sent ≡ own.sent ++ new_of r
sent-own_after own act (Err fault) = sym (append-nil own.sent)
sent-own_after own act (Ok done) = refl

pub sent_grows_holds : SentGrows
sent_grows_holds w [] = begins_itself w.sent
sent_grows_holds w (move ∷ moves) =
    begins_on w.sent (happens w move).sent (run (happens w move) moves).sent
    (new_of (act_on (w.state move.proc) move.act), sym (sent-world_after w move.proc move.act (act_on (w.state move.proc) move.act)))
    (sent_grows_holds (happens w move) moves)

pub with_acts-append : (own : Own) (acts more : List Act) → with_acts own (acts ++ more) ≡ with_acts (with_acts own acts) more
with_acts-append own [] more = refl
with_acts-append own (act ∷ acts) more = with_acts-append (with_act own act) acts more

own_sends : (own : Own) (acts : List Act) → IsPrefixOf own.sent (with_acts own acts).sent
own_sends own [] = begins_itself own.sent
own_sends own (act ∷ acts) =
    begins_on own.sent (with_act own act).sent (with_acts (with_act own act) acts).sent
    (new_of (act_on own.state act), sym (sent-own_after own act (act_on own.state act)))
    (own_sends (with_act own act) acts)

pub own_sent_grows_holds : OwnSentGrows
own_sent_grows_holds own acts more = rw with_acts-append (own_sends (with_acts own acts) more)

-- what was sent, by who sent it
pub record IsSentBy (first : List Packet) (w : World) (each : ℕ → Own) : Type 0 where
  pub own : (p : ℕ) → IsAsOwn w p (each p)
  pub by : (x : Packet) → Contains w.sent x → Contains first x ⊎ ((p : ℕ) × Contains (each p).sent x)
  pub of_first : (x : Packet) → Contains first x → Contains w.sent x
  pub of_own : (p : ℕ) (x : Packet) → Contains (each p).sent x → Contains w.sent x

sent_by_same : (first : List Packet) (w : World) (each other : ℕ → Own) → ((p : ℕ) → each p ≡ other p) → IsSentBy first w each → IsSentBy first w other
sent_by_same first w each other same h = record {
  own = λ p. rw (← same p) (h.own p);
  by = λ x at. elim (h.by x at) [ inl c ↦ inl c | inr found ↦ inr (found.0, rw (← same found.0) found.1) ];
  of_first = h.of_first;
  of_own = λ p x c. h.of_own p x (rw (same p) c);
}

sent_by_move : (first : List Packet) (w : World) (each : ℕ → Own) (move : RingMove) → IsSentBy first w each → IsSentBy first (happens w move) (λ p. after_move (each p) p move)
sent_by_move first w each move h =
    let new = new_of (act_on (w.state move.proc) move.act) in
    let grown : (happens w move).sent ≡ w.sent ++ new = sent-world_after w move.proc move.act (act_on (w.state move.proc) move.act) in
    let mine : (with_act (each move.proc) move.act).sent ≡ (each move.proc).sent ++ new =
    rw (h.own move.proc).state (sent-own_after (each move.proc) move.act (act_on (each move.proc).state move.act)) in
    record {
      own = λ p. own_moved w move p (each p) (h.own p);
      by = λ x c. let c' : Contains (w.sent ++ new) x = rw (← grown) c in elim (Contains-append_cases w.sent new x c') [
        | inl old ↦ elim (h.by x old) [
          | inl c ↦ inl c
          | inr found ↦ inr (
            found.0,
            cond_both (found.0 == move.proc) _ _ (λ (own : Own). Contains own.sent x)
                (λ mine. in_longer (each found.0).sent _ x (own_sends (each found.0) (move.act ∷ [])) found.1) (λ other. found.1),
          )
        ]
        | inr here ↦ inr (move.proc, rw (eq-eqb move.proc move.proc refl, mine) (Contains-append_right (each move.proc).sent new x here))
      ];
      of_first = λ x c. rw grown (Contains-append_left w.sent new x (h.of_first x c));
      of_own = λ p x. cond_both (p == move.proc) _ _ (λ (own : Own). Contains own.sent x → Contains (happens w move).sent x)
          (λ is c. (
          let P : ℕ → Type 0 = λ q. Contains (with_act (each q) move.act).sent x in
          let c' : Contains ((each move.proc).sent ++ new) x = rw (← mine) (subst P (eqb-true p move.proc is) c) in
          elim (Contains-append_cases (each move.proc).sent new x c') [
            | inl old ↦ rw grown (Contains-append_left w.sent new x (h.of_own move.proc x old))
            | inr here ↦ rw grown (Contains-append_right w.sent new x here)
          ]
          ))
          (λ other c. rw grown (Contains-append_left w.sent new x (h.of_own p x c)));
    }

pub sent_by_moves : (first : List Packet) (w : World) (each : ℕ → Own) (moves : List RingMove) → IsSentBy first w each → IsSentBy first (run w moves) (λ p. with_acts (each p) (acts_of p moves))
sent_by_moves first w each [] h = h
sent_by_moves first w each (move ∷ moves) h =
    sent_by_same first (run (happens w move) moves) (λ p. with_acts (after_move (each p) p move) (acts_of p moves)) (λ p. with_acts (each p) (acts_of p (move ∷ moves)))
    (λ p. one_more p move moves (each p))
    (sent_by_moves first (happens w move) (λ p. after_move (each p) p move) moves (sent_by_move first w each move h))

sent_at_start : (ring : RingName) (members : List ℕ) → IsSentBy (AToken (first_token ring) ∷ []) (start ring members) (own_start ring members)
sent_at_start ring members = record {
  own = λ p. record { state = refl; up = refl; accepted = refl };
  by = λ x c. inl c;
  of_first = λ x c. c;
  of_own = λ p x c. absurd (none x c);
}
  where
    none : (x : Packet) → Contains [] x → ⊥
    none x (k, below, at) = omega arith

pub sent_by_all : (ring : RingName) (members : List ℕ) (moves : List RingMove) → IsSentBy (AToken (first_token ring) ∷ []) (run (start ring members) moves) (own_of ring members moves)
sent_by_all ring members moves = sent_by_moves (AToken (first_token ring) ∷ []) (start ring members) (own_start ring members) moves (sent_at_start ring members)

one_only : (x t : Packet) → Contains (t ∷ []) x → x ≡ t
one_only x t c = elim (Contains-push_cases [] t x c) [ inl none ↦ absurd (omega arith) | inr same ↦ sym same ]

one_is : (x t : Packet) → x ≡ t → Contains (t ∷ []) x
one_is x t same = rw same (Contains-push [] t)

pub sent_is_own_holds : SentIsOwn
sent_is_own_holds ring members moves x =
    let sent = sent_by_all ring members moves in (
      λ c. elim (sent.by x c) [ inl first ↦ inl (one_only x (AToken (first_token ring)) first) | inr found ↦ inr found ],
      λ either. elim either [ inl same ↦ sent.of_first x (one_is x (AToken (first_token ring)) same) | inr found ↦ sent.of_own found.0 x found.1 ],
    )
