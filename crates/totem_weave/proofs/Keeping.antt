-- A step of a ring keeps the ring's name.
use Rattle.totem_weave.proofs.Common.{◌≡◌, List, [], Option, None, Some, IfOk, refl, RingName, Body, Message, Token, RingFault, Ring, message_refusal, token_refusal, Done, unless_refused, given, holding, after_message, after_token, on_message, on_token}
use Rattle.totem_core.specs.Visiting.{adopting, adopted_or_same}

-- the step leads to a state of this ring
abbrev pub LeadsTo : RingName → Done → Type 0
LeadsTo ring done = done.state.ring ≡ ring

unless : (ring : RingName) (refused : Option RingFault) (done : Done) → LeadsTo ring done → IfOk (unless_refused refused done) (LeadsTo ring)
unless ring None done same = same
unless ring (Some fault) done same = tt

pub message_keeps : (s : Ring) (m : Message) → IfOk (on_message s m) (LeadsTo s.ring)
message_keeps s m = unless s.ring (message_refusal s m) (after_message s m) refl

pub token_keeps : (s : Ring) (bodies : List Body) (t : Token) → IfOk (on_token (given s bodies) t) (LeadsTo s.ring)
token_keeps s bodies t = unless s.ring (token_refusal (given s bodies) t) (after_token (given s bodies) t) refl

same_or_held : (old : Ring) (refused : Option RingFault) (m : Message)
    → (adopted_or_same old (unless_refused refused (record { state = holding old m; packets = []; handed = [] }))).ring ≡ old.ring
same_or_held old None m = refl
same_or_held old (Some fault) m = refl

pub adopting_keeps : (old : Ring) (carried : Option Message) → (adopting old carried).ring ≡ old.ring
adopting_keeps old None = refl
adopting_keeps old (Some m) = same_or_held old (message_refusal old m) m
