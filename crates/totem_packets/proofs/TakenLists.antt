-- A list that is read is spelled so, and what is spelled so is read again.
use Rattle.totem_packets.proofs.Common.{◌≡◌, ℕ, zero, suc, ◌+◌, ◌^◌, ◌<◌, ◌≤◌, List, [], ◌∷◌, ◌++◌, length, Ok, refl, sym, ap, ◌∙◌, append_assoc, append-nil, arith, Width, w8, w16, w32, flat_map, AllByRecursion, All-from_recursion, recursion_from_All, IsUpTo, All, AllPairs, IsBelow, Parsed, IsRequests, IsProcesses}
use Rattle.std.proofs.lemmas.List.Concat.{flat_map-cons}
use Rattle.totem_packets.specs.Fields.{above_at, rising_at, list_at}
use Rattle.totem_packets.specs.Spelling.{number_bytes, list_bytes}
use Rattle.totem_packets.proofs.Chains.{Rises, pairs_rise, rise_from_pairs}
use Rattle.totem_packets.proofs.Taken.{IsTaking, Spells, gives_taking, bind_taking, weaker_taking, IsWide, wide8, wide16, wide32, above_taking, above_again, up_to_taking, up_to_again}

-- ---- one after the other

-- one element is read as it is spelled, and spelled as it is read
pub record IsReading {Y : Type 0} (one_above : ℕ → List ℕ → Parsed Y) (number_of : Y → ℕ) (spell : Y → List ℕ) (Fits : Y → Type 0) : Type 0 where
  pub takes : (last : ℕ) → IsTaking (Spells spell (λ y. Fits y × (last < number_of y))) (one_above last)
  pub again : (last : ℕ) (y : Y) (rest : List ℕ) → Fits y → last < number_of y → one_above last (spell y ++ rest) ≡ Ok (y, rest)

-- a list of elements: all fit, there are so many, and each is above the one before
pub record IsRow {Y : Type 0} (number_of : Y → ℕ) (Fits : Y → Type 0) (count last : ℕ) (ys : List Y) : Type 0 where
  pub fits : AllByRecursion Fits ys
  pub long : length ys ≡ count
  pub rises : Rises number_of last ys

pub row_taking : {Y : Type 0} (one_above : ℕ → List ℕ → Parsed Y) (number_of : Y → ℕ) (spell : Y → List ℕ) (Fits : Y → Type 0) → IsReading one_above number_of spell Fits
    → (count last : ℕ) → IsTaking (Spells (flat_map spell) (IsRow number_of Fits count last)) (rising_at one_above number_of count last)
unfolding rising_at
row_taking one_above number_of spell Fits reading zero last = gives_taking [] (refl, record { fits = tt; long = refl; rises = tt })
row_taking one_above number_of spell Fits reading (suc n) last =
    bind_taking _ _ (reading.takes last) (λ first f. bind_taking _ _ (row_taking one_above number_of spell Fits reading n (number_of first)) (λ others g.
    gives_taking _ (rw (append-nil (flat_map spell others)) (sym (flat_map-cons spell first others)), record { fits = (f.0, g.fits); long = ap suc g.long; rises = (f.1, g.rises) })))

pub row_again : {Y : Type 0} (one_above : ℕ → List ℕ → Parsed Y) (number_of : Y → ℕ) (spell : Y → List ℕ) (Fits : Y → Type 0) → IsReading one_above number_of spell Fits
    → (last : ℕ) (ys : List Y) (rest : List ℕ) → Rises number_of last ys → AllByRecursion Fits ys → rising_at one_above number_of (length ys) last (flat_map spell ys ++ rest) ≡ Ok (ys, rest)
unfolding rising_at
row_again one_above number_of spell Fits reading last [] rest rises fits = refl
row_again one_above number_of spell Fits reading last (y ∷ ys) rest rises fits =
    let regrouped : flat_map spell (y ∷ ys) ++ rest ≡ spell y ++ (flat_map spell ys ++ rest) = ap (λ (x : List ℕ). x ++ rest) (flat_map-cons spell y ys) ∙ append_assoc (spell y) (flat_map spell ys) rest in
    ap (rising_at one_above number_of (suc (length ys)) last) regrouped
    ∙ rw (reading.again last y (flat_map spell ys ++ rest) fits.0 rises.0, row_again one_above number_of spell Fits reading (number_of y) ys rest rises.1 fits.1) refl

-- ---- numbers after their count

number_reading : (w : Width) (limit : ℕ) → IsWide w limit → IsReading (above_at w) (λ n. n) (number_bytes w) (λ n. n < limit)
number_reading w limit wide = record { takes = above_taking w limit wide; again = above_again w limit wide }

-- ascending numbers below a limit are from 1 to the number before it
each_up_to : (max limit last : ℕ) (ns : List ℕ) → limit ≤ max + 1 → Rises (λ n. n) last ns → AllByRecursion (λ n. n < limit) ns → AllByRecursion (IsUpTo max) ns
each_up_to max limit last [] le rises small = tt
each_up_to max limit last (n ∷ ns) le rises small = (record { positive = omega (arith, rises.0); small = omega (arith, small.0) }, each_up_to max limit n ns le rises.1 small.1)

record IsListed (max most : ℕ) (ns : List ℕ) : Type 0 where
  few : length ns ≤ most
  rising : AllPairs IsBelow ns
  each : All (IsUpTo max) ns

list_taking : (w : Width) (limit max : ℕ) → IsWide w limit → limit ≡ max + 1 → (most : ℕ) → IsTaking (Spells (list_bytes w) (IsListed max most)) (list_at w most)
unfolding list_at list_bytes
list_taking w limit max wide e most =
    bind_taking _ _ (up_to_taking w8 (2 ^ 8) wide8 most) (λ count few. weaker_taking _ (row_taking (above_at w) (λ n. n) (number_bytes w) (λ n. n < limit) (number_reading w limit wide) count 0) (λ ns text f. (
      rw (f.0, f.1.long) refl,
      record {
        few = omega (arith, few, f.1.long);
        rising = pairs_rise (λ n. n) 0 ns f.1.rises;
        each = All-from_recursion (IsUpTo max) ns (each_up_to max limit 0 ns (omega (arith, e)) f.1.rises f.1.fits);
      },
    )))

list_again : (w : Width) (limit max : ℕ) (wide : IsWide w limit) → limit ≡ max + 1 → (most : ℕ) (ns rest : List ℕ) → most < 2 ^ 8 → IsListed max most ns → list_at w most (list_bytes w ns ++ rest) ≡ Ok (ns, rest)
unfolding list_at list_bytes
list_again w limit max wide e most ns rest low fits =
    simp append_assoc (rw (up_to_again w8 (2 ^ 8) wide8 most (length ns) _ (omega arith) fits.few) (row_again (above_at w) (λ n. n) (number_bytes w) (λ n. n < limit) (number_reading w limit wide) 0 ns rest
    (rise_from_pairs (λ n. n) 0 ns (λ k d within. (fits.each k d within).positive) fits.rising)
    (recursion_from_All (λ n. n < limit) ns (λ k d within. omega (arith, e, (fits.each k d within).small)))))

-- ---- what a token asks for, and sets of processes

pub requests_taking : IsTaking (Spells (list_bytes w32) IsRequests) (list_at w32 64)
requests_taking = weaker_taking _ (list_taking w32 (2 ^ 32) 4294967295 wide32 (omega arith) 64) (λ ns text f. (f.0, record { few = f.1.few; rising = f.1.rising; each = f.1.each }))

pub requests_again : (ns rest : List ℕ) → IsRequests ns → list_at w32 64 (list_bytes w32 ns ++ rest) ≡ Ok (ns, rest)
requests_again ns rest fits = list_again w32 (2 ^ 32) 4294967295 wide32 (omega arith) 64 ns rest (omega arith) (record { few = fits.few; rising = fits.rising; each = fits.each })

pub processes_taking : IsTaking (Spells (list_bytes w16) IsProcesses) (list_at w16 32)
processes_taking = weaker_taking _ (list_taking w16 (2 ^ 16) 65535 wide16 (omega arith) 32) (λ ns text f. (f.0, record { few = f.1.few; rising = f.1.rising; each = f.1.each }))

pub processes_again : (ns rest : List ℕ) → IsProcesses ns → list_at w16 32 (list_bytes w16 ns ++ rest) ≡ Ok (ns, rest)
processes_again ns rest fits = list_again w16 (2 ^ 16) 65535 wide16 (omega arith) 32 ns rest (omega arith) (record { few = fits.few; rising = fits.rising; each = fits.each })
