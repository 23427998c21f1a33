-- Where a process delivers the messages of a regular configuration.
use Rattle.std.specs.Prelude.{◌↔◌, ℕ, ◌<◌, List, Option, Some, None}
use Rattle.std.specs.declared.cmp.Ordering.{Ordering}
use Rattle.std.specs.BTreeMap as tree
use Rattle.totem_names.specs.declared.ring.RingId.{RingId}
use Rattle.totem_names.specs.declared.conf.ConfId.{ConfId}
use Rattle.totem_names.specs.declared.conf.ConfId.TheVariants.{Regular}
use Rattle.totem_names.specs.declared.message.MsgId.{MsgId}
use Rattle.totem_evs.specs.declared.entry.Entry.{Entry}
use Rattle.totem_evs.specs.Following.{Com, DeliversIn, HasDelivered}
use Rattle.totem_walk.specs.declared.deliveries.Deliveries.{Deliveries}
use Rattle.totem_walk.specs.Acts.{IsThere}

-- the order of messages
abbrev pub message_order : MsgId → MsgId → Ordering
message_order = (Rattle.totem_names.specs.contracts.message.MsgIdOrd.TheImpl.cmp-value).it

-- where m is delivered, if at all
abbrev pub index_in : Deliveries → MsgId → Option ℕ
index_in deliveries m = tree.get message_order deliveries.indices m

-- `follower` is what follows c in the log, if anything does
pub record IsFollowedBy (log : List Entry) (c : RingId) (follower : Option ConfId) : Type 0 where
  pub exact : (d : ConfId) → Com log c d ↔ IsThere (Regular c) follower d

-- none of the first n entries delivers m
pub record NotBefore (log : List Entry) (c : RingId) (m : MsgId) (n : ℕ) : Type 0 where
  pub never : (k : ℕ) → k < n → DeliversIn log c m k → ⊥

-- the entry at k, one of the first n, delivers m
pub record IsBefore (log : List Entry) (c : RingId) (m : MsgId) (n k : ℕ) : Type 0 where
  pub below : k < n
  pub delivers : DeliversIn log c m k

abbrev pub IsDeliveredBefore : List Entry → RingId → MsgId → ℕ → Option ℕ → Type 0
IsDeliveredBefore log c m n None = NotBefore log c m n
IsDeliveredBefore log c m n (Some k) = IsBefore log c m n k

-- these are the deliveries in c, and in what follows it, among the first n entries of the log
pub record AreDeliveriesBefore (deliveries : Deliveries) (log : List Entry) (c : RingId) (n : ℕ) : Type 0 where
  pub each : (m : MsgId) → IsDeliveredBefore log c m n (index_in deliveries m)

abbrev pub IsDelivered : List Entry → RingId → MsgId → Option ℕ → Type 0
IsDelivered log c m None = HasDelivered log c m → ⊥
IsDelivered log c m (Some k) = DeliversIn log c m k

-- these are the deliveries in c, and in what follows it, in the log
pub record AreDeliveries (deliveries : Deliveries) (log : List Entry) (c : RingId) : Type 0 where
  pub each : (m : MsgId) → IsDelivered log c m (index_in deliveries m)
