-- Held copies over many packets (docs/PROTOCOL.md, "The network").
use Rattle.std.specs.Prelude.{◌≡◌, ℕ, ◌+◌, List, [], ◌∷◌, ◌++◌, length}
use Rattle.totem_net.specs.declared.copies.Fate.{Fate}
use Rattle.totem_net.specs.declared.held.HeldCopy.{HeldCopy}
use Rattle.totem_net.specs.Wires.{copies_made, kept, handed_on, still_held}

-- a packet that arrives, and its fate
pub record Arrival : Type 0 where
  pub packet : List ℕ
  pub fate : Fate

-- what is held after these packets have arrived, one after another
abbrev pub held_after : List Arrival → List HeldCopy → List HeldCopy
held_after [] held = held
held_after (a ∷ more) held = held_after more (still_held a.fate a.packet held)

-- after one or more further packets have arrived, exactly those copies are still held that let more than these pass; newer ones
-- follow them
abbrev pub WaitTheirTime : Type 0
WaitTheirTime =
    (first : Arrival) (more : List Arrival) (held : List HeldCopy)
    → (newer : List HeldCopy) × (held_after (first ∷ more) held ≡ kept (length (first ∷ more)) held ++ newer)

-- no copy is lost, and the only new ones are those of the packet that arrives
abbrev pub NoneIsLost : Type 0
NoneIsLost =
    (fate : Fate) (packet : List ℕ) (held : List HeldCopy)
    → length (handed_on fate packet held) + length (still_held fate packet held)
    ≡ length (copies_made fate packet) + length held
