-- Whose messages a member delivers when it leaves its old ring (docs/PROTOCOL.md, "The finish").
use Rattle.std.specs.Prelude.{◌≡◌, ℕ, ◌<◌, ◌⊎◌, List, [], ◌∷◌, ◌++◌, true, Some}
use Rattle.totem_names.specs.declared.conf.ConfId.{ConfId}
use Rattle.totem_names.specs.declared.conf.ConfId.TheVariants.{Regular}
use Rattle.totem_packets.specs.declared.commit.CommitToken.{CommitToken}
use Rattle.totem_packets.specs.declared.message.Message as message
use Rattle.totem_packets.specs.Sets.{has}
use Rattle.totem_evs.specs.declared.entry.Entry.{Entry}
use Rattle.totem_ring.specs.Rings.{Ring, message_at}
use Rattle.totem_recover.specs.Exchange.{Leaving, IsReady, new_recovery}
use Rattle.totem_recover.specs.Finish.{deliveries, between_rings, finish}

-- the message's delivery in this configuration, if it has one, is among the entries
pub record Delivers (entries : List Entry) (x : ConfId) (m : message.Message) : Type 0 where
  pub before : List Entry
  pub after : List Entry
  pub all : entries ≡ before ++ deliveries x (m ∷ []) ++ after

-- A message that is held, was not delivered to the node and was sent by a process in O is delivered, in the old
-- configuration or in the transitional one.
abbrev pub OwedAreDelivered : Type 0
OwedAreDelivered = (r : Leaving) (old : Ring) (n : ℕ) (m : message.Message)
    → message_at old.held n ≡ Some m → old.handed < n → has r.obliged m.sender ≡ true
    → Delivers (finish r old) (Regular old.ring) m ⊎ Delivers (finish r old) (between_rings r) m

-- A member that begins a recovery is in its O.
abbrev pub OwesItself : Type 0
OwesItself = (me : ℕ) (prev : Ring) (token : CommitToken) → IsReady me prev token → has (new_recovery me prev token).obliged me ≡ true
