-- Writing the deliveries of an old ring, one held message after another.
use Rattle.totem_recover.proofs.Common.{◌≡◌, ℕ, ◌+◌, ◌≤◌, List, ◌++◌, length, Bool, true, false, ConfId, Entry, Held, going_up, held_above, deliveries, rest_from, owed_of}
use Rattle.totem_packets.specs.declared.message.Message as message

-- the entries so far and the deliveries still to be written make the regular part
pub record RegularGoesOn (x : ConfId) (high handed : ℕ) (held : Held) (before entries : List Entry) (last : ℕ) (left : Held) : Type 0 where
  pub written : entries ++ deliveries x (going_up last high left) ≡ before ++ deliveries x (going_up handed high held)
  pub counted : last + length (going_up last high left) ≡ handed + length (going_up handed high held)

-- the messages after the first gap, or before it
abbrev pub rest_at : Bool → List ℕ → ℕ → Held → List message.Message
rest_at true obliged at left = owed_of obliged left
rest_at false obliged at left = rest_from obliged at left

pub record RestGoesOn (x : ConfId) (obliged : List ℕ) (last : ℕ) (held : Held) (before entries : List Entry) (gap : Bool) (at : ℕ) (left : Held) : Type 0 where
  pub written : entries ++ deliveries x (rest_at gap obliged at (held_above last left)) ≡ before ++ deliveries x (rest_from obliged last (held_above last held))
  pub above : last ≤ at
