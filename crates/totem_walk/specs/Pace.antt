-- How a receiver keeps up with what a sender sent and delivered so far.
use Rattle.std.specs.Prelude.{◌≡◌, ◌⊎◌, ℕ, ◌<◌, ◌≤◌, max, List, Option, Some, None}
use Rattle.totem_names.specs.declared.conf.ConfId.{ConfId}
use Rattle.totem_names.specs.declared.message.MsgId.{MsgId}
use Rattle.totem_evs.specs.declared.entry.Entry.{Entry}
use Rattle.totem_walk.specs.declared.deliveries.Deliveries.{Deliveries}
use Rattle.totem_walk.specs.declared.pace.Pace.{Pace}
use Rattle.totem_walk.specs.declared.pace.Pace.TheVariants.{Anywhere, Behind, Nowhere}
use Rattle.totem_walk.specs.Acts.{SendsIn, HandlesIn, HandlesNothing, Handles}
use Rattle.totem_walk.specs.Deliveries.{index_in}

-- a delivery at k is not after everything handled so far
abbrev pub IsEarly : Pace → ℕ → Type 0
IsEarly Anywhere k = ⊥
IsEarly (Behind last) k = k ≤ last
IsEarly Nowhere k = Unit {0}

-- a delivery at k is after everything handled so far
abbrev pub IsInTime : Pace → ℕ → Type 0
IsInTime Anywhere k = Unit {0}
IsInTime (Behind last) k = last < k
IsInTime Nowhere k = ⊥

-- the pace after one more message is handled, which is delivered at the given index, if at all
abbrev pub pace_with : Pace → Option ℕ → Pace
pace_with pace None = Nowhere
pace_with Anywhere (Some k) = Behind k
pace_with (Behind last) (Some k) = Behind (max last k)
pace_with Nowhere (Some k) = Nowhere

-- the entry sends a message in x that is delivered too early
pub record ComesEarly (deliveries : Deliveries) (x : ConfId) (pace : Pace) (entry : Entry) : Type 0 where
  pub message : MsgId
  pub sends : SendsIn entry x message
  pub index : ℕ
  pub delivered : index_in deliveries message ≡ Some index
  pub early : IsEarly pace index

-- no message that the entry sends in x is delivered too early
pub record ComesInTime (deliveries : Deliveries) (x : ConfId) (pace : Pace) (entry : Entry) : Type 0 where
  pub each : (n : MsgId) (k : ℕ) → SendsIn entry x n → index_in deliveries n ≡ Some k → IsInTime pace k

-- the new pace takes the entry into account
pub record GoesOn (deliveries : Deliveries) (x : ConfId) (entry : Entry) (old new : Pace) : Type 0 where
  pub way : (HandlesNothing entry x × (new ≡ old)) ⊎ ((m : MsgId) × HandlesIn entry x m × (new ≡ pace_with old (index_in deliveries m)))

-- one of the first n entries handles m in x
pub record HandlesBefore (log : List Entry) (x : ConfId) (n : ℕ) (m : MsgId) : Type 0 where
  pub index : ℕ
  pub before : index < n
  pub handles : Handles log index m x

-- none of the first n entries handles anything in x
pub record HandlesNothingBefore (log : List Entry) (x : ConfId) (n : ℕ) : Type 0 where
  pub never : (m : MsgId) → HandlesBefore log x n m → ⊥

-- m is delivered at or before k
pub record IsReached (deliveries : Deliveries) (m : MsgId) (k : ℕ) : Type 0 where
  pub index : ℕ
  pub delivered : index_in deliveries m ≡ Some index
  pub before : index ≤ k

-- everything that the first n entries handle in x is delivered, the last of it at `last`
pub record AreReached (log : List Entry) (x : ConfId) (deliveries : Deliveries) (n last : ℕ) : Type 0 where
  pub each : (m : MsgId) → HandlesBefore log x n m → IsReached deliveries m last
  pub message : MsgId
  pub handled : HandlesBefore log x n message
  pub delivered : index_in deliveries message ≡ Some last

-- something that the first n entries handle in x is not delivered
pub record IsLacking (log : List Entry) (x : ConfId) (deliveries : Deliveries) (n : ℕ) : Type 0 where
  pub message : MsgId
  pub handled : HandlesBefore log x n message
  pub lacks : index_in deliveries message ≡ None

-- this is the pace after the first n entries
abbrev pub IsPace : List Entry → ConfId → Deliveries → ℕ → Pace → Type 0
IsPace log x deliveries n Anywhere = HandlesNothingBefore log x n
IsPace log x deliveries n (Behind last) = AreReached log x deliveries n last
IsPace log x deliveries n Nowhere = IsLacking log x deliveries n
