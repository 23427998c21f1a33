-- Places by index.
use Rattle.std.specs.Prelude.{ℕ, suc}
use Rattle.totem_names.specs.declared.place.Place.{Place}

-- the place of the entry at i of p's log, i counting from 0
abbrev pub place : ℕ → ℕ → Place
place p i = record { proc = p; at = suc i }
