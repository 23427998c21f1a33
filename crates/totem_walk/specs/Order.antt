-- Whether the deliveries keep the order of a sender's log.
use Rattle.std.specs.Prelude.{◌≡◌, ℕ, ◌<◌, ◌≤◌, List, Some}
use Rattle.totem_names.specs.declared.conf.ConfId.{ConfId}
use Rattle.totem_names.specs.declared.message.MsgId.{MsgId}
use Rattle.totem_evs.specs.declared.entry.Entry.{Entry}
use Rattle.totem_evs.specs.Events.{Sends}
use Rattle.totem_walk.specs.declared.deliveries.Deliveries.{Deliveries}
use Rattle.totem_walk.specs.Acts.{Handles}
use Rattle.totem_walk.specs.Deliveries.{index_in}

-- what the log handles in x before one of its first n entries sends a message there is delivered before that message, if that is
-- delivered
pub record KeepsOrderBefore (log : List Entry) (x : ConfId) (deliveries : Deliveries) (n : ℕ) : Type 0 where
  pub each : (i j k : ℕ) (m o : MsgId) → i < j → j < n → Handles log i m x → Sends log j o x → index_in deliveries o ≡ Some k
      → (l : ℕ) × (l < k) × (index_in deliveries m ≡ Some l)

-- the same for all entries
pub record KeepsOrder (log : List Entry) (x : ConfId) (deliveries : Deliveries) : Type 0 where
  pub each : (i j k : ℕ) (m o : MsgId) → i < j → Handles log i m x → Sends log j o x → index_in deliveries o ≡ Some k
      → (l : ℕ) × (l < k) × (index_in deliveries m ≡ Some l)

-- what the log handles in x before it sends a message there is not delivered before that message, which is delivered
pub record BreaksOrder (log : List Entry) (x : ConfId) (deliveries : Deliveries) : Type 0 where
  pub first : ℕ
  pub second : ℕ
  pub order : first < second
  pub cause : MsgId
  pub effect : MsgId
  pub handles : Handles log first cause x
  pub sends : Sends log second effect x
  pub index : ℕ
  pub delivered : index_in deliveries effect ≡ Some index
  pub late : (l : ℕ) → index_in deliveries cause ≡ Some l → index ≤ l
