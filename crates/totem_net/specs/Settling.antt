-- The ways that a packet changes, and how they are put back in their places.
use Rattle.std.specs.Prelude.{ℕ, ◌+◌, List, [], ◌∷◌, ◌++◌, drop, slice_index_or, if◌then◌else◌}
use Rattle.totem_net.specs.declared.address.Address.{Address}
use Rattle.totem_net.specs.declared.held.HeldCopy.{HeldCopy}
use Rattle.totem_net.specs.Addresses.{is_for}
use Rattle.totem_net.specs.Words.{ToCome}
use Rattle.totem_net.specs.Wires.{still_held}
use Rattle.totem_net.specs.Ways.{next_fate, past}

-- the changed way of one node, if the packet is for it
abbrev pub changed_at : Address → List ℕ → ℕ → ToCome → List HeldCopy → List (List HeldCopy)
changed_at address packet node fates held =
    (if is_for address node then still_held (next_fate fates) packet held ∷ [] else [])

-- the changed ways of the nodes from this one on
abbrev pub all_changed : Address → List ℕ → ℕ → ToCome → List (List HeldCopy) → List (List HeldCopy)
all_changed address packet node fates [] = []
all_changed address packet node fates (held ∷ more) =
    changed_at address packet node fates held ++ all_changed address packet (node + 1) (past address node fates) more

-- the ways from a node on, where each way that the packet is for is replaced by the next changed one
abbrev pub settled : Address → ℕ → List (List HeldCopy) → List (List HeldCopy) → List (List HeldCopy)
settled address node [] changed = []
settled address node (held ∷ more) changed =
    (if is_for address node then slice_index_or changed 0 held else held)
    ∷ settled address (node + 1) more (if is_for address node then drop 1 changed else changed)
