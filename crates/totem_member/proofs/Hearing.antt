-- What is noted once a Join is.
use Rattle.totem_member.proofs.Common.{◌≡◌, ℕ, ◌==◌, ◌&&◌, ◌||◌, Bool, true, false, List, [], ◌∷◌, refl, ◌∙◌, arith, if◌then◌else◌, same_sets, noted_equal, noting}
use Rattle.std.proofs.lemmas.Bool.Decides.{nat_tests}
use Rattle.totem_packets.specs.declared.join.Join.{Join}
use Rattle.totem_member.specs.declared.join_sets.Sets.{Sets}
use Rattle.totem_member.specs.declared.join_sets.Noted.{Noted}

abbrev pub its_sets : Join → Sets
its_sets j = record { processes = j.processes; failed = j.failed }

-- of the sender of a Join its sets are noted, of others what was noted before
pub noted_last : (noted : List Noted) (j : Join) (p : ℕ) (sets : Sets) → noted_equal (noting noted j) p sets ≡ (if p == j.sender then same_sets (its_sets j) sets else noted_equal noted p sets)
noted_last [] j p sets = last (j.sender == p) (p == j.sender) (same_sets (its_sets j) sets) (grind (arith, nat_tests))
  where
    last : (a b same : Bool) → a ≡ b → ((a && same) || false) ≡ (if b then same else false)
    last true true same e = by_same same
      where
        by_same : (s : Bool) → (s || false) ≡ s
        by_same true = refl
        by_same false = refl
    last true false same e = absurd cc
    last false true same e = absurd cc
    last false false same e = refl
noted_last (n ∷ ns) j p sets = more (n.proc == j.sender) (p == j.sender) refl refl (noted_last ns j p sets)
  where
    more : (own other : Bool) → (n.proc == j.sender) ≡ own → (p == j.sender) ≡ other
        → noted_equal (noting ns j) p sets ≡ (if p == j.sender then same_sets (its_sets j) sets else noted_equal ns p sets)
        → noted_equal (noting (n ∷ ns) j) p sets ≡ (if p == j.sender then same_sets (its_sets j) sets else noted_equal (n ∷ ns) p sets)
    more true true own other before = rw own (before ∙ rw other refl)
    more true false own other before =
        let another : (n.proc == p) ≡ false = grind (arith, nat_tests) in
        rw own (before ∙ rw (other, another) refl)
    more false true own other before =
        let another : (n.proc == p) ≡ false = grind (arith, nat_tests) in
        rw (own, another) (before ∙ rw other refl)
    more false false own other before = rw (own, before, other) refl
