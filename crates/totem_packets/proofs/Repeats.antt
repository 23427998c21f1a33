-- Reading one element after the other, as a loop does.
use Rattle.totem_packets.proofs.Common.{◌≡◌, ℕ, suc, ◌-◌, ◌+◌, ◌≤◌, ◌<◌, List, [], ◌∷◌, ◌++◌, Ok, append_assoc, arith, append-nil, ◌>>=◌, Parsed, Fails}
use Rattle.totem_packets.specs.declared.fault.PacketFault.{PacketFault}
use Rattle.totem_packets.specs.Fields.{rising_at}

-- what was read before, and what is still to be read
abbrev pub with_front : {Y : Type 0} → List Y → Parsed (List Y) → Parsed (List Y)
with_front front read = read >>= λ x. Ok (front ++ x.0, x.1)

-- the list so far and the result for the remaining bytes make the result for all bytes
pub record IsReadTo {Y : Type 0} (one_above : ℕ → List ℕ → Parsed Y) (number_of : Y → ℕ) (front : List Y) (count i last : ℕ) (bytes : List ℕ) (total : Parsed (List Y)) : Type 0 where
  pub so_far : with_front front (rising_at one_above number_of (count - i) last bytes) ≡ total

pub goes_on : {Y : Type 0} (one_above : ℕ → List ℕ → Parsed Y) (number_of : Y → ℕ) (front : List Y) (count i last : ℕ) (bytes : List ℕ) (y : Y) (after : List ℕ) (total : Parsed (List Y)) → i < count → one_above last bytes ≡ Ok (y, after)
    → IsReadTo one_above number_of front count i last bytes total → IsReadTo one_above number_of (front ++ y ∷ []) count (i + 1) (number_of y) after total
unfolding rising_at
goes_on one_above number_of front count i last bytes y after total lt h to =
    let k : count - i ≡ suc (count - (i + 1)) = omega arith in grind (arith, append_assoc)

pub ends : {Y : Type 0} (one_above : ℕ → List ℕ → Parsed Y) (number_of : Y → ℕ) (fault : PacketFault) (front : List Y) (count i last : ℕ) (bytes : List ℕ) (total : Parsed (List Y)) → i < count → Fails fault (one_above last bytes)
    → IsReadTo one_above number_of front count i last bytes total → Fails fault total
unfolding rising_at
ends one_above number_of fault front count i last bytes total lt h to = grind arith

pub is_done : {Y : Type 0} (one_above : ℕ → List ℕ → Parsed Y) (number_of : Y → ℕ) (front : List Y) (count i last : ℕ) (bytes : List ℕ) (total : Parsed (List Y)) → count ≤ i → IsReadTo one_above number_of front count i last bytes total → total ≡ Ok (front, bytes)
unfolding rising_at
is_done {Y = Y} one_above number_of front count i last bytes total le to =
    let k : count - i ≡ 0 = omega arith in grind (arith, append-nil)
