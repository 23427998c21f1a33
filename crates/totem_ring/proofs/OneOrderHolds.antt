-- Every schedule keeps the one order.
use Rattle.totem_ring.proofs.Common.{◌≡◌, ℕ, List, [], ◌∷◌, ◌++◌, Option, Ok, refl, sym, ◌∙◌, ap, append_assoc, append-nil, arith, Contains, All-nil, All-cons, All-contains, RingName, Body, Message, Token, Ring, first_token, message_refusal, token_refusal, Done, act_on, submit, on_message, after_message, holding, on_token, after_token, on_resend, resent, kept_after, World, start, happens, world_after, MayCome, IsSchedule, run, submitted, IsPrefixOf, IsOneOrder, OneOrder, bodies_of}
use Rattle.totem_packets.specs.declared.packet.Packet.TheVariants.{Message as AMessage, Token as AToken}
use Rattle.totem_ring.specs.declared.moves.Act.{Act}
use Rattle.totem_ring.specs.declared.moves.Act.TheVariants.{Submit as DoesSubmit, Message as GetsMessage, Token as GetsToken, Resend as DoesResend}
use Rattle.totem_ring.specs.declared.moves.RingMove.{RingMove}
use Rattle.totem_ring.proofs.Prefixes.{one_begins, slice_get-append, bodies_begin}
use Rattle.totem_ring.proofs.Nth.{IsNth, IsOf}
use Rattle.totem_ring.proofs.HeldOnes.{AreOf-with_message}
use Rattle.totem_ring.proofs.Fitting.{AllFit}
use Rattle.totem_ring.proofs.RingInvariant.{KeptIsOf, Keeps, HasOrder, Keeps-hand_up, Keeping-same_tokens, unless_refused_keeps}
use Rattle.totem_ring.proofs.NotRefused.{token_is_taken}
use Rattle.totem_ring.proofs.TokenVisit.{visit_keeps}

pub at_start : (ring : RingName) (members : List ℕ) → HasOrder (start ring members)
at_start ring members = record {
  earlier = [];
  newest = first_token ring;
  msgs = [];
  keeping = record {
    sent = All-cons (IsOf (first_token ring ∷ []) []) (AToken (first_token ring)) [] (record { before = 0; after = refl; at = refl }) (All-nil (IsOf (first_token ring ∷ []) []));
    numbers = record { number = λ k m at. absurd cc };
    seq = refl;
    taken = λ t below. absurd (omega arith);
    each = λ p. record { me = refl; members = refl; held = tt; handed = refl; begins = ([], refl); bodies = refl; kept = tt };
  };
}

-- a step that takes no token
same_tokens : (w : World) (p : ℕ) (act : Act) (done : Done) → (h : HasOrder w) → done.state.last ≡ (w.state p).last → AllFit (h.earlier ++ h.newest ∷ []) h.msgs done.packets
    → Keeps w.members (h.earlier ++ h.newest ∷ []) h.msgs p done.state (w.up p ++ done.handed) (w.accepted p ++ submitted act) → HasOrder (world_after w p act (Ok done))
same_tokens w p act done h same_last fit mine = record {
  earlier = h.earlier;
  newest = h.newest;
  msgs = h.msgs;
  keeping = Keeping-same_tokens w h.earlier h.newest h.msgs p act done h.keeping same_last fit mine;
}

submit_keeps : (w : World) (p : ℕ) (body : Body) → HasOrder w → HasOrder (world_after w p (DoesSubmit body) (submit (w.state p) body))
submit_keeps w p body h = grind (arith, unless_refused_keeps, same_tokens, append-nil, append_assoc)

kept_or_gone : (tokens : List Token) (kept : Option Token) (n : ℕ) → KeptIsOf tokens kept → KeptIsOf tokens (kept_after kept n)
kept_or_gone tokens kept n h = grind arith

message_keeps : (w : World) (p : ℕ) (m : Message) → HasOrder w → Contains w.sent (AMessage m) → HasOrder (world_after w p (GetsMessage m) (on_message (w.state p) m))
message_keeps w p m h sent = unless_refused_keeps w p (GetsMessage m) (message_refusal (w.state p) m) (after_message (w.state p) m) h (λ _. same_tokens w p (GetsMessage m) (after_message (w.state p) m) h refl tt (
    let mine = h.keeping.each p in
    let tokens : List Token = h.earlier ++ h.newest ∷ [] in
    let nth : IsNth h.msgs m.number m = All-contains (IsOf tokens h.msgs) w.sent (AMessage m) h.keeping.sent sent in
    let held : Ring = record (holding (w.state p) m) { kept = kept_after (w.state p).kept m.number } in
    let holding : Keeps w.members tokens h.msgs p held (w.up p) (w.accepted p) = grind (arith, AreOf-with_message, kept_or_gone) in
    rw append-nil (Keeps-hand_up w.members tokens h.msgs p held (w.up p) (w.accepted p) holding)
    ))

token_keeps : (w : World) (p : ℕ) (t : Token) → HasOrder w → Contains w.sent (AToken t) → HasOrder (world_after w p (GetsToken t) (on_token (w.state p) t))
token_keeps w p t h sent = unless_refused_keeps w p (GetsToken t) (token_refusal (w.state p) t) (after_token (w.state p) t) h (λ passed. visit_keeps w p t h sent (token_is_taken (w.state p) t passed))

resent_fit : (tokens : List Token) (msgs : List Message) (s : Ring) (kept : Option Token) → KeptIsOf tokens kept → AllFit tokens msgs (resent s kept)
resent_fit tokens msgs s kept h = grind arith

resend_keeps : (w : World) (p : ℕ) → HasOrder w → HasOrder (world_after w p DoesResend (Ok (on_resend (w.state p))))
resend_keeps w p h = let mine = h.keeping.each p in same_tokens w p DoesResend (on_resend (w.state p)) h refl (resent_fit (h.earlier ++ h.newest ∷ []) h.msgs (w.state p) (w.state p).kept mine.kept) (rw (append-nil, append-nil) mine)

act_keeps : (w : World) (p : ℕ) (act : Act) → HasOrder w → MayCome w act → HasOrder (world_after w p act (act_on (w.state p) act))
act_keeps w p (DoesSubmit body) h may = submit_keeps w p body h
act_keeps w p (GetsMessage m) h may = message_keeps w p m h may
act_keeps w p (GetsToken t) h may = token_keeps w p t h may
act_keeps w p DoesResend h may = resend_keeps w p h

pub run_keeps : (w : World) (moves : List RingMove) → HasOrder w → IsSchedule w moves → HasOrder (run w moves)
run_keeps w [] h is = h
run_keeps w (move ∷ moves) h is = run_keeps (happens w move) moves (act_keeps w move.proc move.act h is.1) is.2

is_ordered : (w : World) → HasOrder w → IsOneOrder w
is_ordered w h = record {
  one_prefix = λ p q _ _. one_begins (w.up p) (w.up q) h.msgs (h.keeping.each p).begins (h.keeping.each q).begins;
  numbers = λ p _ k m at. h.keeping.numbers.number k m (rw (← (h.keeping.each p).begins.1) (slice_get-append (w.up p) (h.keeping.each p).begins.0 k m at));
  bodies = λ p q _. said p q (bodies_begin q (w.up p) h.msgs (h.keeping.each p).begins);
}
  where
    said : (p q : ℕ) → IsPrefixOf (bodies_of q (w.up p)) (bodies_of q h.msgs) → IsPrefixOf (bodies_of q (w.up p)) (w.accepted q)
    said p q (rest, e) = (rest ++ (w.state q).waiting, sym (append_assoc (bodies_of q (w.up p)) rest (w.state q).waiting) ∙ ap (λ bodies. bodies ++ (w.state q).waiting) e ∙ (h.keeping.each q).bodies)

pub one_order_holds : OneOrder
one_order_holds ring members moves is = is_ordered (run (start ring members) moves) (run_keeps (start ring members) moves (at_start ring members) is)
