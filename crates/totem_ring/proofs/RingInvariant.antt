-- The invariant of every schedule, over two lists: the tokens in the order in which they were made, and the messages by number.
use Rattle.std.proofs.Common.{arith}
use Rattle.totem_ring.proofs.Common.{◌≡◌, ℕ, ◌+◌, ◌<◌, List, [], ◌∷◌, ◌++◌, length, Option, Some, None, Ok, refl, append-nil, length-append, All-append, Body, Message, Token, Ring, taker_of, handed_up, after_hand_up, Done, unless_refused, World, world_after, submitted, IsPrefixOf, bodies_of}
use Rattle.std.specs.Prelude.{All, ⊤}
use Rattle.totem_ring.specs.declared.fault.RingFault.{RingFault}
use Rattle.totem_ring.specs.declared.moves.Act.{Act}
use Rattle.totem_ring.proofs.Prefixes.{begins_longer, bodies_of-append}
use Rattle.totem_ring.proofs.Nth.{IsNth, IsNth-append, IsOf}
use Rattle.totem_ring.proofs.HeldOnes.{AreOf, AreOf-append}
use Rattle.totem_ring.proofs.GoingUp.{going_up_begins}
use Rattle.totem_ring.proofs.Numbering.{AreNumbered}
use Rattle.totem_ring.proofs.Fitting.{AllFit, All-packets}
use Rattle.std.proofs.lemmas.Bool.Decides.{nat_tests}

abbrev pub KeptIsOf : List Token → Option Token → Type 0
KeptIsOf tokens None = ⊤
KeptIsOf tokens (Some t) = IsNth tokens t.token_seq t

-- what holds of one member
pub record Keeps (ring_members : List ℕ) (tokens : List Token) (msgs : List Message) (p : ℕ) (s : Ring) (up : List Message) (accepted : List Body) : Type 0 where
  pub me : s.me ≡ p
  pub members : s.members ≡ ring_members
  pub held : AreOf msgs s.held
  pub handed : length up ≡ s.handed
  pub begins : IsPrefixOf up msgs
  pub bodies : bodies_of p msgs ++ s.waiting ≡ accepted
  pub kept : KeptIsOf tokens s.kept

pub record Keeping (w : World) (earlier : List Token) (newest : Token) (msgs : List Message) : Type 0 where
  pub sent : All (IsOf (earlier ++ newest ∷ []) msgs) w.sent
  pub numbers : AreNumbered msgs
  pub seq : length msgs ≡ newest.seq
  -- every token but the newest was taken
  pub taken : (t : ℕ) → t < length earlier → t < (w.state (taker_of w.members (t + 1))).last
  pub each : (p : ℕ) → Keeps w.members (earlier ++ newest ∷ []) msgs p (w.state p) (w.up p) (w.accepted p)

pub record HasOrder (w : World) : Type 0 where
  pub earlier : List Token
  pub newest : Token
  pub msgs : List Message
  pub keeping : Keeping w earlier newest msgs

pub kept_longer : (tokens more : List Token) (kept : Option Token) → KeptIsOf tokens kept → KeptIsOf (tokens ++ more) kept
kept_longer tokens more None h = h
kept_longer tokens more (Some t) h = IsNth-append tokens more t.token_seq t h

-- a member that does nothing while other members make more
pub Keeps-longer : (members : List ℕ) (tokens more : List Token) (msgs new : List Message) (p : ℕ) (s : Ring) (up : List Message) (accepted : List Body)
    → bodies_of p new ≡ [] → Keeps members tokens msgs p s up accepted → Keeps members (tokens ++ more) (msgs ++ new) p s up accepted
Keeps-longer members tokens more msgs new p s up accepted silent h =
    grind (arith, AreOf-append, begins_longer, bodies_of-append, append-nil, kept_longer)

-- delivering to the node keeps the order
pub Keeps-hand_up : (members : List ℕ) (tokens : List Token) (msgs : List Message) (p : ℕ) (s : Ring) (up : List Message) (accepted : List Body)
    → Keeps members tokens msgs p s up accepted → Keeps members tokens msgs p (after_hand_up s) (up ++ handed_up s) accepted
Keeps-hand_up members tokens msgs p s up accepted h = grind (arith, length-append, going_up_begins)

-- a member that took no token
pub Keeping-same_tokens : (w : World) (earlier : List Token) (newest : Token) (msgs : List Message) (p : ℕ) (act : Act) (done : Done)
    → Keeping w earlier newest msgs → done.state.last ≡ (w.state p).last → AllFit (earlier ++ newest ∷ []) msgs done.packets
    → Keeps w.members (earlier ++ newest ∷ []) msgs p done.state (w.up p ++ done.handed) (w.accepted p ++ submitted act)
    → Keeping (world_after w p act (Ok done)) earlier newest msgs
Keeping-same_tokens w earlier newest msgs p act done h same_last fit mine = record {
  sent = All-append (IsOf (earlier ++ newest ∷ []) msgs) w.sent _ h.sent (All-packets (earlier ++ newest ∷ []) msgs done.packets fit);
  numbers = h.numbers;
  seq = h.seq;
  taken = λ t below. grind (arith, nat_tests, h.taken t);
  each = λ q. grind (arith, nat_tests, mine, h.each q);
}

-- a step that keeps the order if it isn't refused keeps the order
pub unless_refused_keeps : (w : World) (p : ℕ) (act : Act) (refusal : Option RingFault) (done : Done)
    → HasOrder w → (refusal ≡ None → HasOrder (world_after w p act (Ok done))) → HasOrder (world_after w p act (unless_refused refusal done))
unless_refused_keeps w p act None done h go = go refl
unless_refused_keeps w p act (Some fault) done h go = h
