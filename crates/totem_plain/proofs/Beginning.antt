-- Where lists of events begin.
use Rattle.totem_plain.proofs.Common.{◌≡◌, ℕ, ◌+◌, List, [], ◌∷◌, slice_get, Some, arith, slice_get_within, Place, Entry, Log, log_of, Begins, EachBegins, begins_at}

-- a place of a log is at one index
pub index_is : (i j : ℕ) → i + 1 ≡ j + 1 → j ≡ i
index_is i j same = omega arith

-- this entry is at the place
pub record IsAt (run : List Log) (e : Place) : Type 0 where
  pub index : ℕ
  pub entry : Entry
  pub is : e.at ≡ index + 1
  pub at : slice_get (log_of run e.proc) index ≡ Some entry

pub begins : (run : List Log) (H : List Place → Type 0) → (H [] → ⊥) → ((e : Place) (rest : List Place) → H (e ∷ rest) → IsAt run e) → EachBegins run H
begins run H never first = record { each = λ places h. go places h }
  where
    go : (places : List Place) → H places → Begins run places
    go [] h = absurd (never h)
    go (e ∷ rest) h = let f = first e rest h in begins_at run e f.index rest f.is (slice_get_within (log_of run e.proc) f.index f.entry f.at)
