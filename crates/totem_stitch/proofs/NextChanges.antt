-- The changes of a log, found by walking along it.
use Rattle.totem_stitch.proofs.Common.{◌≡◌, ℕ, ◌<◌, ◌≤◌, List, length, slice_get, Some, sym, ◌∙◌, arith, slice_get_within, RingId, ConfId, Regular, Transitional, Entry, ChangesTo, IsChange, IsNextChange, NoneBetween, one_next, NoneComesNext, MovesNext}
use Rattle.totem_evs.specs.declared.entry.Entry.TheVariants.{Conf}

-- an entry changes to one configuration
pub one_change : (log : List Entry) (i : ℕ) (x y : ConfId) → ChangesTo log i x → ChangesTo log i y → x ≡ y
one_change log i x y (ms, at) (ns, at') = let one : Some (Conf x ms) ≡ Some (Conf y ns) = sym at ∙ at' in cc

pub none_next_at_end : (log : List Entry) (i n : ℕ) → length log ≤ n → NoneBetween log i n → NoneComesNext log i
none_next_at_end log i n end before = record {
  never = λ x comes moves. go x comes.to comes.next.later comes.next.change comes.change;
}
  where
    go : (x : ConfId) (j : ℕ) → i < j → IsChange log j → ChangesTo log j x → ⊥
    go x j lt is (ms, at) = before.none j lt (omega (arith, slice_get_within log j (Conf x ms) at)) is

is_next : (log : List Entry) (i j : ℕ) (x : ConfId) (ms : List ℕ) → slice_get log j ≡ Some (Conf x ms) → i < j → NoneBetween log i j → IsNextChange log i j
is_next log i j x ms at lt before = record { change = (x, (ms, at)); later = lt; none_between = before.none }

-- the next change is to a regular configuration
pub regular_next : (log : List Entry) (i j : ℕ) (x : ConfId) (c : RingId) (ms : List ℕ) → slice_get log j ≡ Some (Conf x ms) → x ≡ Regular c → i < j → NoneBetween log i j → NoneComesNext log i
regular_next log i j x c ms at is lt before = record {
  never = λ y comes moves. (
      let same = one_next log i comes.to j comes.next (is_next log i j x ms at lt before) in
      let there : ChangesTo log j y = rw same at comes.change in
      let one : y ≡ Regular c = one_change log j y (Regular c) there (ms, rw is at at) in
      rw one at moves);
}

-- the next change is to a transitional one
pub moves_here : (log : List Entry) (i j : ℕ) (x : ConfId) (next : RingId) (least : ℕ) (ms : List ℕ) → slice_get log j ≡ Some (Conf x ms) → x ≡ Transitional least next → i < j → NoneBetween log i j → MovesNext log i x
moves_here log i j x next least ms at is lt before = record {
  next = record { to = j; next = is_next log i j x ms at lt before; change = (ms, at) };
  transitional = rw is tt;
}
