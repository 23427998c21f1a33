-- Facts that the code of a visit needs.
use Rattle.totem_ring.proofs.Common.{◌≡◌, ℕ, ◌+◌, ◌-◌, ◌^◌, ◌<◌, ◌≤◌, List, [], ◌∷◌, length, None, false, ◌∙◌, arith, All, and_parts, not-true, All-nil, All-cons, Body, Message, Token, up_to, Ring, Held, with_message, with_messages, token_refusal, holds_above, numbered}
use Rattle.totem_ring.proofs.NotRefused.{passed}
use Rattle.totem_ring.proofs.Holding.{Grows, Grows-insert}
use Rattle.totem_ring.proofs.HoldingMore.{up_to-all}

pub record HasPassed (s : Ring) (t : Token) : Type 0 where
  pub token_fits : t.token_seq < 2 ^ 64 - 1
  pub seq_fits : t.seq + length s.waiting < 2 ^ 32
  pub none_above : holds_above s.held t.seq ≡ false

pub has_passed : (s : Ring) (t : Token) → token_refusal s t ≡ None → HasPassed s t
has_passed s t h = grind (arith, passed, and_parts, not-true)

-- the numbers given are above seq
pub numbered_above : (s : Ring) (low seq : ℕ) (bodies : List Body) → low ≤ seq → All (λ (m : Message). low < m.number) (numbered s seq bodies)
numbered_above s low seq [] le = All-nil (λ (m : Message). low < m.number)
numbered_above s low seq (b ∷ bs) le =
    All-cons (λ (m : Message). low < m.number) (record { ring = s.ring; number = seq + 1; sender = s.me; body = b }) (numbered s (seq + 1) bs) (omega arith) (numbered_above s low (seq + 1) bs (omega arith))

pub Grows-messages : (held : Held) (ms : List Message) → Grows held (with_messages held ms)
Grows-messages held [] = record { still = λ q h. h }
Grows-messages held (m ∷ ms) = record { still = λ q h. (Grows-messages (with_message held m) ms).still q ((Grows-insert held m.number m).still q h) }

-- removing what is above seq leaves what was held before
pub forgotten : (held new newer : Held) (seq : ℕ) → holds_above held seq ≡ false → up_to seq new ≡ up_to seq held → newer ≡ up_to seq new → newer ≡ held
forgotten held new newer seq none below is = is ∙ below ∙ up_to-all seq held none
