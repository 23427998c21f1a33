-- The way to one receiver, and the copies that are held on it (docs/PROTOCOL.md, "The network").
use Rattle.std.specs.Prelude.{ℕ, ◌-◌, List, [], ◌∷◌, ◌++◌, ◌==◌, nat_lt, nat_le, filter, map, if◌then◌else◌}
use Rattle.totem_net.specs.declared.copies.Fate.{Fate}
use Rattle.totem_net.specs.declared.held.HeldCopy.{HeldCopy}

-- the copies of a packet under its fate
abbrev pub copies_made : Fate → List ℕ → List HeldCopy
copies_made fate packet =
    (if fate.copies == 0
    then []
    else (if fate.copies == 1
    then record { left = fate.first; packet = packet } ∷ []
    else record { left = fate.first; packet = packet } ∷ record { left = fate.second; packet = packet } ∷ []))

-- a copy after n further packets have passed
abbrev pub nearer : ℕ → HeldCopy → HeldCopy
nearer n copy = record copy { left = copy.left - n }

-- which of these copies are forwarded by the time that n further packets have passed, in order
abbrev pub due : ℕ → List HeldCopy → List (List ℕ)
due n copies = map (λ c. c.packet) (filter (λ c. nat_le c.left n) copies)

-- which of them are still held then
abbrev pub kept : ℕ → List HeldCopy → List HeldCopy
kept n copies = map (nearer n) (filter (λ c. nat_lt n c.left) copies)

-- what is forwarded when a packet arrives: first its own copies that are not held, then the held copies that are due
abbrev pub handed_on : Fate → List ℕ → List HeldCopy → List (List ℕ)
handed_on fate packet held = due 0 (copies_made fate packet) ++ due 1 held

-- what is held then: first what was held before, then the packet's own copies
abbrev pub still_held : Fate → List ℕ → List HeldCopy → List HeldCopy
still_held fate packet held = kept 1 held ++ kept 0 (copies_made fate packet)
