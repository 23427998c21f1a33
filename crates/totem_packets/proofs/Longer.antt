-- How long a list is that is joined or filtered.
use Rattle.totem_packets.proofs.Common.{◌≡◌, ℕ, zero, suc, ◌+◌, ◌<◌, ◌≤◌, Bool, true, List, [], ◌∷◌, length, take, get_or, filter, arith, nat_lt, drop_more, drop_all, cases_order, cases_Bool, IsProcesses, has, with_process, union}
use Rattle.std.proofs.lemmas.Bool.Decides.{nat_tests}
use Rattle.totem_packets.specs.declared.commit_member.Report.{Report}
use Rattle.totem_packets.proofs.SetFacts.{Up, up_of, up_with, with_same, with_before, with_behind, length_with_had, length_with_new}
use Rattle.totem_packets.proofs.OldRingFacts.{obliged}

-- the list is ascending
abbrev pub Rises : List ℕ → Type 0
Rises [] = Unit {0}
Rises (p ∷ ps) = Up p ps

-- so do the processes of a set
pub rises_set : (ps : List ℕ) → IsProcesses ps → Rises ps
rises_set [] is = tt
rises_set (p ∷ ps) is = (up_of (p ∷ ps) is).1

pub rises_with : (p : ℕ) (ps : List ℕ) → Rises ps → Rises (with_process ps p)
rises_with p ps h = grind (arith, with_same, with_before, with_behind, up_with, cases_order)

longer_above : (p last : ℕ) (ps : List ℕ) → Up last ps → length ps ≤ length (with_process ps p)
longer_above p last ps up = grind (arith, length_with_had, length_with_new, cases_Bool (has ps p))

pub longer_with : (p : ℕ) (ps : List ℕ) → Rises ps → length ps ≤ length (with_process ps p)
longer_with p ps h = grind (arith, with_same, with_before, with_behind, longer_above, cases_order)

pub rises_union : (ps qs : List ℕ) → Rises ps → Rises (union ps qs)
rises_union ps [] up = up
rises_union ps (q ∷ qs) up = rises_union (with_process ps q) qs (rises_with q ps up)

pub longer_union : (ps qs : List ℕ) → Rises ps → length ps ≤ length (union ps qs)
longer_union ps [] up = omega arith
longer_union ps (q ∷ qs) up = omega (arith, longer_with q ps up, longer_union (with_process ps q) qs (rises_with q ps up))

pub longer_obliged : (ps : List ℕ) (rs : List Report) → Rises ps → length ps ≤ length (obliged ps rs)
longer_obliged ps [] up = omega arith
longer_obliged ps (r ∷ rs) up = omega (arith, longer_union ps r.obligation up, longer_obliged (union ps r.obligation) rs (rises_union ps r.obligation up))

-- ---- filters

-- there is room for an element that passes
pub room : (test : ℕ → Bool) (xs : List ℕ) (i d : ℕ) → i < length xs → test (get_or xs i d) ≡ true → length (filter test (take i xs)) < length (filter test xs)
room test [] i d lt passes = absurd (omega (arith, lt))
room test (x ∷ xs) zero d lt passes = rw passes (omega arith)
room test (x ∷ xs) (suc i) d lt passes = grind (arith, room test xs i d)

-- those below a process and those above it are no more than all
pub apart : (p : ℕ) (ps : List ℕ) → length (filter (λ q. nat_lt q p) ps) + length (filter (λ q. nat_lt p q) ps) ≤ length ps
apart p [] = omega arith
apart p (q ∷ qs) = grind (arith, nat_tests, apart p qs)

-- the calls that add processes one by one
pub ruleset unions = (rises_set, rises_with, longer_union, drop_more, drop_all)

pub ruleset obligations = (rises_set, rises_union, longer_obliged, drop_more, drop_all)
