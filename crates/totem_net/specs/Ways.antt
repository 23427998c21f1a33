-- The ways to all nodes, which are numbered from 1, and what a packet does to them (docs/PROTOCOL.md, "The network").
use Rattle.std.specs.Prelude.{ℕ, ◌+◌, List, [], ◌∷◌, ◌++◌, map, if◌then◌else◌}
use Rattle.rand_pcg.specs.Pcg.{pcg32}
use Rattle.totem_net.specs.declared.address.Address.{Address}
use Rattle.totem_net.specs.declared.copies.Fate.{Fate}
use Rattle.totem_net.specs.declared.held.HeldCopy.{HeldCopy}
use Rattle.totem_net.specs.declared.delivery.Delivery.{Delivery}
use Rattle.totem_net.specs.Addresses.{is_for}
use Rattle.totem_net.specs.Fates.{fate_of}
use Rattle.totem_net.specs.Words.{ToCome}
use Rattle.totem_net.specs.Wires.{handed_on, still_held}

-- what contracts see of the ways: what is held on each, and the fates to come
pub record Standing : Type 0 where
  pub held : List (List HeldCopy)
  pub to_come : ToCome

-- the next fate
abbrev pub next_fate : ToCome → Fate
next_fate fates = fate_of (pcg32 fates.generator).0 fates.plan

-- the fates to come after that
abbrev pub drawn : ToCome → ToCome
drawn fates = record fates { generator = (pcg32 fates.generator).1 }

-- the fates to come after a node, which takes one only if the packet is for it
abbrev pub past : Address → ℕ → ToCome → ToCome
past address node fates = (if is_for address node then drawn fates else fates)

-- the deliveries of these packets to a node
abbrev pub deliveries : ℕ → List (List ℕ) → List Delivery
deliveries node packets = map (λ p. record { to = node; packet = p }) packets

-- the deliveries to one node
abbrev pub handed_at : Address → List ℕ → ℕ → ToCome → List HeldCopy → List Delivery
handed_at address packet node fates held =
    (if is_for address node then deliveries node (handed_on (next_fate fates) packet held) else [])

-- what is then held for one node
abbrev pub held_at : Address → List ℕ → ℕ → ToCome → List HeldCopy → List HeldCopy
held_at address packet node fates held =
    (if is_for address node then still_held (next_fate fates) packet held else held)

-- the deliveries to the nodes from this one on, in ascending order
abbrev pub all_handed : Address → List ℕ → ℕ → ToCome → List (List HeldCopy) → List Delivery
all_handed address packet node fates [] = []
all_handed address packet node fates (held ∷ more) =
    handed_at address packet node fates held ++ all_handed address packet (node + 1) (past address node fates) more

-- what is then held for the nodes from this one on
abbrev pub all_held : Address → List ℕ → ℕ → ToCome → List (List HeldCopy) → List (List HeldCopy)
all_held address packet node fates [] = []
all_held address packet node fates (held ∷ more) =
    held_at address packet node fates held ∷ all_held address packet (node + 1) (past address node fates) more

-- the fates to come after the nodes from this one on
abbrev pub past_all : Address → ℕ → ToCome → List (List HeldCopy) → ToCome
past_all address node fates [] = fates
past_all address node fates (_ ∷ more) = past_all address (node + 1) (past address node fates) more
