-- How two entries are related, and what that requires of their numbers (docs/SPECIFICATIONS.md, "Certificates").
use Rattle.std.specs.Prelude.{◌≡◌, ◌≢◌, ◌⊎◌, ℕ, ◌<◌}
use Rattle.totem_names.specs.declared.place.Place.{Place}
use Rattle.totem_evs.specs.declared.entry.Entry.{Entry}
use Rattle.totem_evs.specs.Classes.{AreOfOneClass, AreSendAndDelivery}

-- a send is numbered below a delivery of its message
abbrev pub SendIsBelow : Place → Entry → ℕ → Place → Entry → ℕ → Type 0
SendIsBelow e x n f y m = AreSendAndDelivery x y → n < m

abbrev pub SendIsNotBelow : Place → Entry → ℕ → Place → Entry → ℕ → Type 0
SendIsNotBelow e x n f y m = AreSendAndDelivery x y × (n < m → ⊥)

-- entries of one class have the same number
abbrev pub ClassIsOne : Place → Entry → ℕ → Place → Entry → ℕ → Type 0
ClassIsOne e x n f y m = AreOfOneClass x y → n ≡ m

abbrev pub ClassIsSplit : Place → Entry → ℕ → Place → Entry → ℕ → Type 0
ClassIsSplit e x n f y m = AreOfOneClass x y × (n ≢ m)

-- different entries that are not of one class do not share a number
abbrev pub NumberIsOwn : Place → Entry → ℕ → Place → Entry → ℕ → Type 0
NumberIsOwn e x n f y m = n ≡ m → (e ≡ f) ⊎ AreOfOneClass x y

abbrev pub NumberIsShared : Place → Entry → ℕ → Place → Entry → ℕ → Type 0
NumberIsShared e x n f y m = (n ≡ m) × (e ≢ f) × (AreOfOneClass x y → ⊥)
