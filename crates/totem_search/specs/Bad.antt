-- Which entries are bad alone, and which two are bad together (docs/SPECIFICATIONS.md, "Faults").
use Rattle.std.specs.Prelude.{◌≡◌, ◌≢◌, ◌⊎◌, ℕ, Contains}
use Rattle.totem_evs.specs.declared.entry.Entry.{Entry}
use Rattle.totem_evs.specs.declared.entry.Entry.TheVariants.{Conf, Send, Deliver}
use Rattle.totem_evs.specs.Events.{IsTransitional}

-- a change by p to a configuration of which p is not a member
abbrev pub IsForeignChange : ℕ → ℕ → Entry → Type 0
IsForeignChange p i (Conf x ms) = Contains ms p → ⊥
IsForeignChange p i _ = ⊥

-- two changes to one configuration, in one log or with different members
abbrev pub AreTwoForms : ℕ → ℕ → Entry → ℕ → ℕ → Entry → Type 0
AreTwoForms p i (Conf x ms) q j (Conf y ns) = (x ≡ y) × (((p ≡ q) × (i ≢ j)) ⊎ (ms ≢ ns))
AreTwoForms p i _ q j _ = ⊥

-- a send in a transitional configuration
abbrev pub IsSendBetween : ℕ → ℕ → Entry → Type 0
IsSendBetween p i (Send m x service) = IsTransitional x
IsSendBetween p i _ = ⊥

-- two sends of one message, or two deliveries of one message in one log
abbrev pub AreTwice : ℕ → ℕ → Entry → ℕ → ℕ → Entry → Type 0
AreTwice p i (Send m x service) q j (Send n y other) = (m ≡ n) × ((p ≢ q) ⊎ (i ≢ j))
AreTwice p i (Deliver m x) q j (Deliver n y) = (m ≡ n) × (p ≡ q) × (i ≢ j)
AreTwice p i _ q j _ = ⊥
