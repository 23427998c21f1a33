-- How many entries of each kind a run has (docs/SPECIFICATIONS.md, "Counts").
use Rattle.std.specs.Prelude.{◌≡◌, ◌≤◌, ◌+◌, ℕ, List, length, filter, Bool, true, false}
use Rattle.std.specs.List.{flat_map}
use Rattle.totem_names.specs.declared.conf.ConfId.TheVariants.{Transitional}
use Rattle.totem_names.specs.declared.message.Service.TheVariants.{Safe}
use Rattle.totem_evs.specs.declared.entry.Entry.{Entry}
use Rattle.totem_evs.specs.declared.entry.Entry.TheVariants.{Conf, Send, Deliver, Fail}
use Rattle.totem_evs.specs.declared.log.Log.{Log}
use Rattle.totem_explain.specs.declared.size.Size.{Size}

abbrev pub is_change : Entry → Bool
is_change (Conf x members) = true
is_change entry = false

abbrev pub is_send : Entry → Bool
is_send (Send m x service) = true
is_send entry = false

-- a send that says that its message is safe
abbrev pub is_safe_send : Entry → Bool
is_safe_send (Send m x Safe) = true
is_safe_send entry = false

abbrev pub is_delivery : Entry → Bool
is_delivery (Deliver m x) = true
is_delivery entry = false

-- a delivery in a transitional configuration
abbrev pub is_transitional_delivery : Entry → Bool
is_transitional_delivery (Deliver m (Transitional least next)) = true
is_transitional_delivery entry = false

abbrev pub is_failure : Entry → Bool
is_failure (Fail x) = true
is_failure entry = false

-- each number is that of the entries of its kind among these
pub record IsSizeOf (entries : List Entry) (size : Size) : Type 0 where
  pub changes : size.changes ≡ length (filter is_change entries)
  pub sends : size.sends ≡ length (filter is_send entries)
  pub safe_sends : size.safe_sends ≡ length (filter is_safe_send entries)
  pub deliveries : size.deliveries ≡ length (filter is_delivery entries)
  pub transitional : size.transitional_deliveries ≡ length (filter is_transitional_delivery entries)
  pub failures : size.failures ≡ length (filter is_failure entries)

-- the entries of all logs
abbrev pub all_entries : List Log → List Entry
all_entries run = flat_map (λ log. log.entries) run

-- these sizes and the entries that are left add up to the size of all
pub record AddUp (old : Size) (all : List Entry) (size : Size) (left : List Entry) : Type 0 where
  pub changes : size.changes + length (filter is_change left) ≡ old.changes + length (filter is_change all)
  pub sends : size.sends + length (filter is_send left) ≡ old.sends + length (filter is_send all)
  pub safe_sends : size.safe_sends + length (filter is_safe_send left) ≡ old.safe_sends + length (filter is_safe_send all)
  pub deliveries : size.deliveries + length (filter is_delivery left) ≡ old.deliveries + length (filter is_delivery all)
  pub transitional : size.transitional_deliveries + length (filter is_transitional_delivery left) ≡ old.transitional_deliveries + length (filter is_transitional_delivery all)
  pub failures : size.failures + length (filter is_failure left) ≡ old.failures + length (filter is_failure all)

-- no number is greater than this
pub record IsWithin (size : Size) (most : ℕ) : Type 0 where
  pub changes : size.changes ≤ most
  pub sends : size.sends ≤ most
  pub safe_sends : size.safe_sends ≤ most
  pub deliveries : size.deliveries ≤ most
  pub transitional : size.transitional_deliveries ≤ most
  pub failures : size.failures ≤ most
