-- A visit keeps the order: only the newest token can be taken, and only by one member.
use Rattle.totem_ring.proofs.Common.{◌≡◌, ℕ, ◌+◌, ◌==◌, List, [], ◌∷◌, ◌++◌, length, false, Some, Ok, refl, sym, ◌∙◌, ap, subst, append-nil, eq-eqb, ne_eqb, length-append, arith, Contains, filter_map, eqb-false, All-append, All-weaker, Message, Token, Ring, message_at, with_messages, handed_up, after_hand_up, visit, arrival, answer_requests, number_waiting, set_aru, request_missing, hand_up_safe, leaving, numbered, broadcasts, Done, World, world_after, bodies_of}
use Rattle.totem_ring.specs.declared.outcome.To.{To}
use Rattle.std.proofs.lemmas.Option.{slice_get_within}
use Rattle.totem_packets.specs.declared.packet.Packet.TheVariants.{Token as AToken}
use Rattle.totem_ring.specs.declared.moves.Act.TheVariants.{Token as GetsToken}
use Rattle.totem_ring.proofs.Prefixes.{slice_get_mid, begins_longer, bodies_of-append}
use Rattle.totem_ring.proofs.Nth.{IsNth, IsOf, IsOf-append}
use Rattle.totem_ring.proofs.HeldOnes.{StandIn, AreOf-append, AreOf-with_messages, StandIn-append}
use Rattle.totem_ring.proofs.Numbering.{slice_get_push, length-numbered, numbered_stand, AreNumbered-numbered, bodies_of-own, bodies_of-others}
use Rattle.totem_ring.proofs.Fitting.{AllFit, AllFit-append, AllFit-broadcasts, All-packets, requested_stand}
use Rattle.totem_ring.proofs.RingInvariant.{Keeps, Keeping, HasOrder, Keeps-longer, Keeps-hand_up, kept_longer}
use Rattle.totem_ring.proofs.NotRefused.{IsTaken}
use Rattle.std.proofs.lemmas.Bool.Decides.{nat_tests}

-- a token that is taken is the newest
pub newest_is_taken : (w : World) (earlier : List Token) (newest : Token) (msgs : List Message) (p : ℕ) (t : Token)
    → Keeping w earlier newest msgs → Contains w.sent (AToken t) → IsTaken (w.state p) t → (t.token_seq ≡ length earlier + 1) × (newest ≡ t)
newest_is_taken w earlier newest msgs p t h sent taken = grind (arith, slice_get_push, slice_get_within)

-- a member that has numbered the waiting bodies
abbrev numbered_ring : Ring → List Message → ℕ → ℕ → Ring
numbered_ring s new safe_to sent_aru = record s { held = with_messages s.held new; safe_to = safe_to; sent_aru = sent_aru; waiting = [] }

abbrev visit_done : Ring → Token → ℕ → ℕ → List Message → To → Token → Done
visit_done s t safe_to sent_aru asked to next =
    let new = numbered s t.seq s.waiting in
    let safer = numbered_ring s new safe_to sent_aru in
    record {
      state = record (after_hand_up safer) { last = t.token_seq; kept = Some next };
      packets = (broadcasts asked ++ broadcasts new) ++ (to, AToken next) ∷ [];
      handed = handed_up safer;
    }

-- the newest token's visit
module _ (w : World) (earlier : List Token) (t : Token) (msgs : List Message) (p : ℕ) (h : Keeping w earlier t msgs)
    (place : t.token_seq ≡ length earlier + 1) (taken : IsTaken (w.state p) t)
    (safe_to sent_aru : ℕ) (asked : List Message) (to : To) (next : Token)
    (asked_stand : StandIn msgs asked) (next_place : next.token_seq ≡ t.token_seq + 1) (next_seq : next.seq ≡ t.seq + length (w.state p).waiting) where
  abbrev s : Ring
  s = w.state p

  abbrev new : List Message
  new = numbered s t.seq s.waiting

  abbrev tokens : List Token
  tokens = earlier ++ t ∷ []

  next_nth : IsNth (tokens ++ next ∷ []) next.token_seq next
  next_nth = record {
    before = length tokens;
    after = next_place ∙ ap (λ n. n + 1) (place ∙ sym (length-append earlier (t ∷ [])));
    at = slice_get_mid tokens next [];
  }

  new_stand : StandIn (msgs ++ new) new
  new_stand = numbered_stand msgs s t.seq s.waiting h.seq

  fit : AllFit (tokens ++ next ∷ []) (msgs ++ new) (visit_done s t safe_to sent_aru asked to next).packets
  fit = AllFit-append (tokens ++ next ∷ []) (msgs ++ new) (broadcasts asked ++ broadcasts new) ((to, AToken next) ∷ [])
      (AllFit-append (tokens ++ next ∷ []) (msgs ++ new) (broadcasts asked) (broadcasts new)
      (AllFit-broadcasts (tokens ++ next ∷ []) (msgs ++ new) asked (StandIn-append msgs new asked asked_stand))
      (AllFit-broadcasts (tokens ++ next ∷ []) (msgs ++ new) new new_stand))
      (next_nth, tt)

  own : bodies_of p new ≡ s.waiting
  own = bodies_of-own p s t.seq s.waiting (eq-eqb s.me p (h.each p).me)

  before : Keeps w.members (tokens ++ next ∷ []) (msgs ++ new) p (numbered_ring s new safe_to sent_aru) (w.up p) (w.accepted p)
  before =
      grind (arith, AreOf-with_messages, AreOf-append, begins_longer, bodies_of-append, append-nil, kept_longer, own, new_stand, h.each p)

  mine : Keeps w.members (tokens ++ next ∷ []) (msgs ++ new) p (visit_done s t safe_to sent_aru asked to next).state (w.up p ++ (visit_done s t safe_to sent_aru asked to next).handed) (w.accepted p ++ [])
  mine =
      let up = Keeps-hand_up w.members (tokens ++ next ∷ []) (msgs ++ new) p (numbered_ring s new safe_to sent_aru) (w.up p) (w.accepted p) before in
      grind (arith, append-nil, next_nth)

  other : (q : ℕ) → (q == p) ≡ false → Keeps w.members (tokens ++ next ∷ []) (msgs ++ new) q (w.state q) (w.up q) (w.accepted q)
  other q is = Keeps-longer w.members tokens (next ∷ []) msgs new q (w.state q) (w.up q) (w.accepted q)
      (bodies_of-others q s t.seq s.waiting (ne_eqb s.me q (λ same. eqb-false q p is (sym same ∙ (h.each p).me))))
      (h.each q)

  pub newest_visit : Keeping (world_after w p (GetsToken t) (Ok (visit_done s t safe_to sent_aru asked to next))) tokens next (msgs ++ new)
  newest_visit = record {
    sent = All-append (IsOf (tokens ++ next ∷ []) (msgs ++ new)) w.sent _
        (All-weaker (IsOf tokens msgs) (IsOf (tokens ++ next ∷ []) (msgs ++ new)) (IsOf-append tokens (next ∷ []) msgs new) w.sent h.sent)
        (All-packets (tokens ++ next ∷ []) (msgs ++ new) (visit_done s t safe_to sent_aru asked to next).packets fit);
    numbers = AreNumbered-numbered msgs s t.seq s.waiting h.seq h.numbers;
    seq = length-append msgs new ∙ ap (λ n. length msgs + n) (length-numbered s t.seq s.waiting) ∙ ap (λ n. n + length s.waiting) h.seq ∙ sym next_seq;
    taken = λ k below. grind (arith, nat_tests, h.taken k, taken.mine, (h.each p).me, (h.each p).members, length-append earlier (t ∷ []));
    each = λ q. grind (arith, nat_tests, mine, other q);
  }

pub visit_keeps : (w : World) (p : ℕ) (t : Token) → HasOrder w → Contains w.sent (AToken t) → IsTaken (w.state p) t
    → HasOrder (world_after w p (GetsToken t) (Ok (record { state = (visit (w.state p) t).state; packets = (visit (w.state p) t).packets; handed = (visit (w.state p) t).handed })))
visit_keeps w p t h sent taken =
    let newest = newest_is_taken w h.earlier h.newest h.msgs p t h.keeping sent taken in
    let P : Token → Type 0 = λ x. Keeping w h.earlier x h.msgs in
    let keeping : Keeping w h.earlier t h.msgs = subst P newest.1 h.keeping in
    let next = leaving (hand_up_safe (request_missing (set_aru (number_waiting (answer_requests (arrival (w.state p) t)))))) in
    record {
      earlier = h.earlier ++ t ∷ [];
      newest = next;
      msgs = h.msgs ++ numbered (w.state p) t.seq (w.state p).waiting;
      keeping = newest_visit w h.earlier t h.msgs p keeping newest.0 taken _ _ (filter_map (message_at (w.state p).held) t.rtr) _ next
          (requested_stand h.msgs (w.state p).held t.rtr keeping.numbers (keeping.each p).held) refl refl;
    }
