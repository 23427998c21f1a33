-- What a journal and its pens own.
use Rattle.std.specs.Prelude.{ℕ, List, [], map}
use base.Fraction.{full_share}
use base.Stored.{Gv, gnum, gcons, Coded}
use base.Growing.{Order, prefixes, latest, at_least}
use base.Fml.{Fml, fsep}

-- entries are kept as ghost values, in an order that names no type parameter
abbrev pub itself : Coded Gv
itself = record { code = λ g. g; inj = λ x y p. p }

abbrev pub logs : Order (List Gv)
logs = prefixes itself

-- the ghost value of an entry
abbrev pub noted : {E : Type 0} → (E → Gv) → ℕ × E → Gv
noted c e = gcons (gnum e.0) (c e.1)

-- the right to add entries to the journal with this name, whose entries are these
unfoldable pub journal_owns : {E : Type 0} → (E → Gv) → ℕ → List (ℕ × E) → Fml
journal_owns c name entries = latest logs full_share name (map (noted c) entries)

-- the journal with this name has at least these entries, in this order first; and the mark, which is owned only here
unfoldable pub pen_owns : {E : Type 0} → (E → Gv) → ℕ → ℕ → List (ℕ × E) → Fml
pen_owns c name mark seen = fsep (at_least logs name (map (noted c) seen)) (latest logs full_share mark [])
