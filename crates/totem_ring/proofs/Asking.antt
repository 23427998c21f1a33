-- What a token asks for stays within its rules.
use Rattle.totem_ring.proofs.Common.{ℕ, zero, suc, ◌+◌, ◌^◌, ◌<◌, ◌≤◌, List, [], ◌∷◌, length, Bool, not, arith, All, filter, All-nil, All-cons, All-head, All-tail, IsNumber, IsRequests, Held, holds, missing, with_number, with_requests, numbers_above}
use Rattle.std.proofs.lemmas.Bool.Decides.{nat_tests}
use Rattle.totem_packets.proofs.Chains.{Rises as InOrder, pairs_rise, rise_from_pairs}
use Rattle.totem_packets.proofs.SetFacts.{fewer_pass}

-- the numbers are ascending above low, and each is the number of a message
abbrev pub Rises : ℕ → List ℕ → Type 0
Rises low [] = Unit {0}
Rises low (n ∷ ns) = (low < n) × (n ≤ 4294967295) × Rises n ns

pub from_lower : (low least : ℕ) (ns : List ℕ) → least ≤ low → Rises low ns → Rises least ns
from_lower low least [] le h = tt
from_lower low least (n ∷ ns) le h = (omega (arith, h.0), h.1, h.2)

in_order : (low : ℕ) (ns : List ℕ) → Rises low ns → InOrder (λ n. n) low ns
in_order low [] h = tt
in_order low (n ∷ ns) h = (h.0, in_order n ns h.2)

each : (low : ℕ) (ns : List ℕ) → Rises low ns → All IsNumber ns
each low [] h = All-nil IsNumber
each low (n ∷ ns) h = let above : low < n = h.0 in All-cons IsNumber n ns (record { positive = omega arith; small = h.1 }) (each n ns h.2)

rises_from : (low : ℕ) (ns : List ℕ) → InOrder (λ n. n) low ns → All IsNumber ns → Rises low ns
rises_from low [] above numbers = tt
rises_from low (n ∷ ns) above numbers = (above.0, (All-head IsNumber n ns numbers).small, rises_from n ns above.1 (All-tail IsNumber n ns numbers))

pub of_requests : (ns : List ℕ) → IsRequests ns → Rises 0 ns
of_requests ns h = rises_from 0 ns (rise_from_pairs (λ n. n) 0 ns (λ k d within. (h.each k d within).positive) h.rising) h.each

pub are_requests : (ns : List ℕ) → length ns ≤ 64 → Rises 0 ns → IsRequests ns
are_requests ns few h = record { few = few; rising = pairs_rise (λ n. n) 0 ns (in_order 0 ns h); each = each 0 ns h }

pub Rises-filter : (test : ℕ → Bool) (low : ℕ) (ns : List ℕ) → Rises low ns → Rises low (filter test ns)
Rises-filter test low [] h = tt
Rises-filter test low (n ∷ ns) h = grind (arith, from_lower, Rises-filter test n ns)

Rises-with_number : (low n : ℕ) (ns : List ℕ) → low < n → n ≤ 4294967295 → Rises low ns → Rises low (with_number ns n)
Rises-with_number low n [] above small h = (above, small, tt)
Rises-with_number low n (k ∷ ks) above small h = grind (arith, nat_tests, Rises-with_number k n ks)

length-with_number : (ns : List ℕ) (n : ℕ) → length (with_number ns n) ≤ length ns + 1
length-with_number [] n = omega arith
length-with_number (k ∷ ks) n = grind (arith, length-with_number ks n)

-- adding requests keeps the rules
pub with_requests_are : (rtr ns : List ℕ) (low : ℕ) → Rises low ns → length rtr ≤ 64 → Rises 0 rtr → IsRequests (with_requests rtr ns)
with_requests_are rtr [] low above few h = are_requests rtr few h
with_requests_are rtr (n ∷ ns) low above few h =
    grind (arith, nat_tests, length-with_number, Rises-with_number, with_requests_are rtr ns n, with_requests_are (with_number rtr n) ns n)

pub Rises-numbers : (low count : ℕ) → low + count ≤ 4294967295 → Rises low (numbers_above low count)
Rises-numbers low zero fits = tt
Rises-numbers low (suc count) fits = (omega arith, omega arith, Rises-numbers (low + 1) count (omega arith))

-- the requests that are left
pub left_are : (test : ℕ → Bool) (numbers : List ℕ) → IsRequests numbers → IsRequests (filter test numbers)
left_are test numbers h =
    are_requests (filter test numbers) (omega (arith, h.few, fewer_pass test numbers)) (Rises-filter test 0 numbers (of_requests numbers h))

-- the missing numbers are ascending
pub missing_rise : (held : Held) (seq : ℕ) → seq < 2 ^ 32 → Rises 0 (missing held seq)
missing_rise held seq fits = Rises-filter (λ n. not (holds held n)) 0 (numbers_above 0 seq) (Rises-numbers 0 seq (omega arith))

-- the requests of a token as it leaves
pub asked_are : (rtr : List ℕ) (held : Held) (seq : ℕ) → IsRequests rtr → seq < 2 ^ 32 → IsRequests (with_requests rtr (missing held seq))
asked_are rtr held seq h fits = with_requests_are rtr (missing held seq) 0 (missing_rise held seq fits) h.few (of_requests rtr h)
