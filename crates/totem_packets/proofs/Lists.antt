-- What is read as an ascending list keeps the rules of the list.
use Rattle.totem_packets.proofs.Common.{All, ◌≡◌, ℕ, zero, suc, ◌<◌, ◌≤◌, List, [], length, Result, Ok, Err, refl, arith, Width, w8, w16, w32, ltb-true, leb-true, IsProcess, ◌>>=◌, Parsed, IsNumber, IsRequests, IsProcesses, after, guard_then, parsed_is}
use Rattle.totem_packets.specs.Fields.{above_at, up_to_at, rising_at}
use Rattle.totem_packets.proofs.Chains.{Rises, pairs_rise}

-- what was read first, and what was read then
pub first_read : {A B E : Type 0} (r : Result (A × List ℕ) E) (f : A × List ℕ → Result B E) (y : B) → (r >>= f) ≡ Ok y
    → (x : A) × (rest : List ℕ) × (r ≡ Ok (x, rest)) × (f (x, rest) ≡ Ok y)
first_read (Ok x) f y e = (x.0, x.1, refl, e)
first_read (Err d) f y e = absurd cc

-- a number that was read is above the given one
pub above_is : (w : Width) (least : ℕ) (bytes : List ℕ) (n : ℕ) (rest : List ℕ) → above_at w least bytes ≡ Ok (n, rest) → least < n
unfolding above_at
above_is w least bytes n rest e = grind (arith, after, guard_then, parsed_is, ltb-true)

-- a number that was read is at most the given one
pub up_to_is : (w : Width) (most : ℕ) (bytes : List ℕ) (n : ℕ) (rest : List ℕ) → up_to_at w most bytes ≡ Ok (n, rest) → n ≤ most
unfolding up_to_at
up_to_is w most bytes n rest e = grind (arith, after, guard_then, parsed_is, leb-true)

-- what reading one element guarantees
pub record IsAbove {Y : Type 0} (one_above : ℕ → List ℕ → Parsed Y) (number_of : Y → ℕ) : Type 0 where
  pub above : (last : ℕ) (bytes : List ℕ) (y : Y) (rest : List ℕ) → one_above last bytes ≡ Ok (y, rest) → last < number_of y

-- a list that was read is ascending and has the given length
pub record IsRow {Y : Type 0} (number_of : Y → ℕ) (count last : ℕ) (ys : List Y) : Type 0 where
  pub rises : Rises number_of last ys
  pub long : length ys ≡ count

pub row_is : {Y : Type 0} (one_above : ℕ → List ℕ → Parsed Y) (number_of : Y → ℕ) → IsAbove one_above number_of → (count last : ℕ) (bytes : List ℕ) (ys : List Y) (rest : List ℕ) → rising_at one_above number_of count last bytes ≡ Ok (ys, rest) → IsRow number_of count last ys
unfolding rising_at
row_is one_above number_of one zero last bytes ys rest e = rw (← (parsed_is [] ys bytes rest e).0) (record { rises = tt; long = refl })
row_is one_above number_of one (suc n) last bytes ys rest e = grind (arith, first_read, one.above, row_is one_above number_of one n)

pub numbers_above : (w : Width) → IsAbove (above_at w) (λ n. n)
numbers_above w = record { above = λ last bytes y rest e. above_is w last bytes y rest e }

pub are_requests : (count : ℕ) (bytes mid : List ℕ) (numbers rest : List ℕ) → up_to_at w8 64 bytes ≡ Ok (count, mid) → rising_at (above_at w32) (λ n. n) count 0 mid ≡ Ok (numbers, rest) → All IsNumber numbers → IsRequests numbers
are_requests count bytes mid numbers rest e1 e2 each =
    let row = row_is (above_at w32) (λ n. n) (numbers_above w32) count 0 mid numbers rest e2 in
    record { few = omega (arith, up_to_is w8 64 bytes count mid e1, row.long); rising = pairs_rise (λ n. n) 0 numbers row.rises; each = each }

pub are_processes : (count : ℕ) (bytes mid : List ℕ) (procs rest : List ℕ) → up_to_at w8 32 bytes ≡ Ok (count, mid) → rising_at (above_at w16) (λ n. n) count 0 mid ≡ Ok (procs, rest) → All IsProcess procs → IsProcesses procs
are_processes count bytes mid procs rest e1 e2 each =
    let row = row_is (above_at w16) (λ n. n) (numbers_above w16) count 0 mid procs rest e2 in
    record { few = omega (arith, up_to_is w8 32 bytes count mid e1, row.long); rising = pairs_rise (λ n. n) 0 procs row.rises; each = each }
