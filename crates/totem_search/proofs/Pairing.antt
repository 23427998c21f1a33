-- Lists of one entry that is bad alone, or of two that are bad together.
use Rattle.totem_judge_run.proofs.Common.{◌≡◌, ℕ, ◌+◌, List, [], ◌∷◌, slice_get, Some, Bool, IsTrue, ◌↔◌, refl, arith, slice_get_within, Place, Entry, Log, log_of}
use Rattle.totem_search.specs.Search.{place, NoneFrom, IsLeastFrom, HoldsOfNone, Begins, EachBegins, IsOneEvent, AreEvents}
use Rattle.totem_search.specs.Pairs.{Has, IsOneOrTwo}
use Rattle.totem_search.proofs.Searching.{begins_at, Starts}

pub entries : (run : List Log) (P : ℕ → ℕ → Entry → Type 0) → AreEvents run (Has run P)
entries run P = record { each = λ p i (x, at, h). slice_get_within (log_of run p) i x at }

pub one_or_two_begins : (run : List Log) (A : ℕ → ℕ → Entry → Type 0) (P : ℕ → ℕ → Entry → ℕ → ℕ → Entry → Type 0) → EachBegins run (IsOneOrTwo run A P)
one_or_two_begins run A P = record { each = λ places h. go places h }
  where
    go : (places : List Place) → IsOneOrTwo run A P places → Begins run places
    go [] h = absurd h
    go (e ∷ []) (i, is, (x, at, h)) = begins_at run e i [] is (slice_get_within (log_of run e.proc) i x at)
    go (e ∷ f ∷ rest) (i, is, (x, at, h)) = begins_at run e i (f ∷ rest) is (slice_get_within (log_of run e.proc) i x at)

-- what is known about the entry at a place is known about the same entry read again
moved : (log : List Entry) (i j : ℕ) (x y : Entry) (Q : ℕ → Entry → Type 0) → slice_get log i ≡ Some x → i + 1 ≡ j + 1 → slice_get log j ≡ Some y → Q j y → Q i x
moved log i j x y Q at is at_j h = grind arith

pub alone : (run : List Log) (A : ℕ → ℕ → Entry → Type 0) (P : ℕ → ℕ → Entry → ℕ → ℕ → Entry → Type 0) (p i : ℕ) (x : Entry) → slice_get (log_of run p) i ≡ Some x → A p i x → IsLeastFrom (IsOneOrTwo run A P) p i []
alone run A P p i x at h = record { least = record { holds = (i, refl, (x, at, h)); first = λ others b. tt } }

-- with an entry that is not bad alone, the others of the list are bad
pub with_others : (run : List Log) (A : ℕ → ℕ → Entry → Type 0) (P : ℕ → ℕ → Entry → ℕ → ℕ → Entry → Type 0) (p i : ℕ) (x : Entry) → slice_get (log_of run p) i ≡ Some x → (A p i x → ⊥) → Starts (IsOneEvent (Has run (P p i x))) (IsOneOrTwo run A P) p i
with_others run A P p i x at not_alone = grind (arith, moved)

pub none_with : (run : List Log) (A : ℕ → ℕ → Entry → Type 0) (P : ℕ → ℕ → Entry → ℕ → ℕ → Entry → Type 0) (p i : ℕ) (x : Entry) → slice_get (log_of run p) i ≡ Some x → (A p i x → ⊥) → HoldsOfNone (IsOneEvent (Has run (P p i x)))
    → NoneFrom (IsOneOrTwo run A P) p i
none_with run A P p i x at not_alone never = record { none = λ rest h. never.none rest ((with_others run A P p i x at not_alone).from rest h) }

-- a test of the entry says whether it is bad
pub entry_told : (run : List Log) (P : ℕ → ℕ → Entry → Type 0) (p i : ℕ) (x : Entry) (b : Bool) → slice_get (log_of run p) i ≡ Some x → IsTrue b ↔ P p i x → IsTrue b ↔ Has run P p i
entry_told run P p i x b at tells = (λ t. (x, at, tells.0 t), λ (y, at_y, h). tells.1 (let one : y ≡ x = cc in rw one at h))
