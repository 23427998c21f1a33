-- The tests that a token passes if it isn't refused.
use Rattle.std.proofs.Common.{arith}
use Rattle.totem_ring.proofs.Common.{◌≡◌, ◌<◌, Bool, true, false, not, if◌then◌else◌, [], Some, None, ap, Token, Ring, taker_of, token_refusal, given}
use Rattle.std.proofs.lemmas.List.{append-nil}
use Rattle.totem_ring.specs.declared.fault.RingFault.TheVariants.{OtherRing, Repeat, Range}

pub record IsTaken (s : Ring) (t : Token) : Type 0 where
  pub new : s.last < t.token_seq
  pub mine : taker_of s.members t.token_seq ≡ s.me

-- a message or a token that isn't refused: it is no repeat, and in range
pub passed : (a b c : Bool) → (if not a then Some OtherRing else if b then Some Repeat else if not c then Some Range else None) ≡ None → (b ≡ false) × (c ≡ true)
passed a b c h = grind arith

pub token_is_taken : (s : Ring) (t : Token) → token_refusal s t ≡ None → IsTaken s t
token_is_taken s t h = grind (arith, passed)

-- if no bodies are given, nothing more is waiting
pub given_nothing : (s : Ring) (t : Token) → token_refusal (given s []) t ≡ token_refusal s t
given_nothing s t = ap (λ waiting. token_refusal (record s { waiting = waiting }) t) (append-nil s.waiting)
