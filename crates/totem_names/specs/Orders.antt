-- How names are ordered.
use Rattle.std.specs.Prelude.{◌≡◌, ◌<◌, ◌⊎◌}
use Rattle.totem_names.specs.declared.conf.ConfId.{ConfId}
use Rattle.totem_names.specs.declared.conf.ConfId.TheVariants.{Regular, Transitional}
use Rattle.totem_names.specs.Names.{RingName, MessageName, PlaceName}

-- rings by number, and then by representative
abbrev pub RingBelow : RingName → RingName → Type 0
RingBelow a b = (a.seq < b.seq) ⊎ ((a.seq ≡ b.seq) × (a.rep < b.rep))

-- messages by ring, and then by number
abbrev pub MessageBelow : MessageName → MessageName → Type 0
MessageBelow a b = RingBelow a.ring b.ring ⊎ ((a.ring ≡ b.ring) × (a.number < b.number))

-- places by process, and then by entry
abbrev pub PlaceBelow : PlaceName → PlaceName → Type 0
PlaceBelow a b = (a.proc < b.proc) ⊎ ((a.proc ≡ b.proc) × (a.at < b.at))

-- regular configurations by ring, before the transitional ones by next ring and then by least member
abbrev pub ConfBelow : ConfId → ConfId → Type 0
ConfBelow (Regular a) (Regular b) = RingBelow a b
ConfBelow (Regular a) (Transitional least next) = Unit {0}
ConfBelow (Transitional least next) (Regular b) = ⊥
ConfBelow (Transitional least next) (Transitional other later) = RingBelow next later ⊎ ((next ≡ later) × (least < other))

-- a strict and total order: nothing is below itself, it is transitive, and of two one is below the other or they are the same
pub record IsStrictOrder {Y : Type 0} (Below : Y → Y → Type 0) : Type 0 where
  pub strict : (a : Y) → ¬ Below a a
  pub goes_on : (a b c : Y) → Below a b → Below b c → Below a c
  pub total : (a b : Y) → Below a b ⊎ ((a ≡ b) ⊎ Below b a)
