-- Messages in ascending order.
use Rattle.std.specs.Prelude.{◌≡◌, ℕ, ◌<◌, List, length, get_or}
use Rattle.std.specs.declared.cmp.Ordering.TheVariants.{Less}
use Rattle.totem_names.specs.declared.message.MsgId.{MsgId}
use Rattle.totem_names.specs.contracts.message.MsgIdOrd.TheImpl as message

-- each message is below those after it
pub record Ascends (messages : List MsgId) : Type 0 where
  pub less : (i j : ℕ) (d : MsgId) → i < j → j < length messages → message.cmp-value.it (get_or messages i d) (get_or messages j d) ≡ Less

-- the message is above all of these
pub record IsAbove (messages : List MsgId) (m : MsgId) : Type 0 where
  pub less : (i : ℕ) (d : MsgId) → i < length messages → message.cmp-value.it (get_or messages i d) m ≡ Less
