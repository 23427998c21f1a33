-- Calls and their receipts in contracts (docs/PROTOCOL.md, "Books").
use Rattle.std.specs.Prelude.{ℕ}
use Rattle.totem_core.specs.declared.input.Input.{Input}
use Rattle.totem_core.specs.Outcomes.{Outcome}
use Rattle.totem_core.specs.Replay.{Answer}

-- a call: an input and its answer
pub record Called : Type 0 where
  pub input : Input
  pub reply : Outcome Answer

-- the receipt of a call: its place among all calls, counted from 1, and the call itself
pub record Receipt : Type 0 where
  pub at : ℕ
  pub input : Input
  pub reply : Outcome Answer
