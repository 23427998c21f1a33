-- The invariant of a gathering: the failed processes are known, and the process itself has not failed.
use Rattle.totem_member.proofs.Common.{◌≡◌, ℕ, ◌<◌, ◌≤◌, ◌==◌, ◌&&◌, ◌||◌, ⊎_elim, Bool, true, false, not, List, length, filter, refl, sym, ◌∙◌, ap, arith, None, Some, Result, Ok, Err, nat_lt, IsOk, IsTrue, IfSome, if◌then◌else◌, eq-eqb, eqb-true, eqb-false, ne_eqb, ltb-false, not-true, not-false, and_parts, and_from, and_right, or_cases, or_parts, or_from, or_left, or_right, IsProcesses, has, is_within, with_process, union, Makes, Up, up_of, up_with, up_union, has_with, has_union, part_is, Gather, IsGather, IsStanding, gathered, agrees, consensus, is_stranger, turning_away, joined}
use Rattle.std.specs.List.{list_all}
use Rattle.totem_packets.specs.declared.join.Join.{Join}
use Rattle.totem_packets.specs.declared.too_many.TooMany.{TooMany}
use Rattle.totem_member.specs.declared.join_sets.Sets.{Sets}
use Rattle.totem_member.proofs.Within.{IsPart, part_of, within_from, no_longer, above, has_filter}

-- the sender and the sets of a Join that is not refused
pub record IsTaken (g : Gather) (j : Join) : Type 0 where
  pub other : j.sender ≡ g.me → ⊥
  pub sender : has j.processes j.sender ≡ true
  pub known : is_within j.failed j.processes ≡ true
  pub few : length (union g.sets.processes j.processes) ≤ 32

pub taken : (g : Gather) (j : Join) → is_stranger g j ≡ false → IsTaken g j
taken g j e =
    let f = or_parts _ (nat_lt 32 (length (union g.sets.processes j.processes))) e in
    let e5 = or_parts _ (not (is_within j.failed j.processes)) f.0 in
    let d = or_parts _ (has g.sets.failed j.sender) e5.0 in
    let c = or_parts _ (has j.failed j.sender) d.0 in
    let b = or_parts (j.sender == g.me) (not (has j.processes j.sender)) c.0 in
    record {
      other = eqb-false j.sender g.me b.0;
      sender = not-false (has j.processes j.sender) b.1;
      known = not-false (is_within j.failed j.processes) e5.1;
      few = ltb-false 32 (length (union g.sets.processes j.processes)) f.1;
    }

-- a set of at most 32 is made
pub room : (made : Result (List ℕ) TooMany) (set : List ℕ) → Makes made set → length set ≤ 32 → IsOk made
room (Ok p) set makes few = refl
room (Err many) set makes few = absurd (omega (arith, makes, few))

-- ---- a process more on both sides

-- a process that is in one of two sets is in one of two others
or_part : {a b c d : Bool} → (a ≡ true → c ≡ true) → (b ≡ true → d ≡ true) → (a || b) ≡ true → (c || d) ≡ true
or_part {a = a} {b = b} {c = c} {d = d} first second e = ⊎_elim (λ h. or_left c d (first h)) (λ h. or_right c d (second h)) (or_cases a b e)

with_part : (s : ℕ) (ps qs : List ℕ) → Up 0 ps → Up 0 qs → IsPart ps qs → IsPart (with_process ps s) (with_process qs s)
with_part s ps qs up others part = record { had = λ x e. has_with s 0 qs x others ∙ or_part (part.had x) (λ here. here) (sym (has_with s 0 ps x up) ∙ e) }

union_part : (ps fs qs gs : List ℕ) → Up 0 ps → Up 0 fs → Up 0 qs → Up 0 gs → IsPart fs ps → IsPart gs qs → IsPart (union fs gs) (union ps qs)
union_part ps fs qs gs p f q g mine theirs = record { had = λ x e. has_union ps 0 qs x p q ∙ or_part (mine.had x) (theirs.had x) (sym (has_union fs 0 gs x f g) ∙ e) }

-- adding a process of the second set stays within the union
with_in_union : (s : ℕ) (ps qs : List ℕ) → Up 0 ps → Up 0 qs → has qs s ≡ true → IsPart (with_process ps s) (union ps qs)
with_in_union s ps qs up others there = record {
  had = λ x e. has_union ps 0 qs x up others ∙ or_part (λ old. old) (λ here. ap (has qs) (sym (eqb-true s x here)) ∙ there) (sym (has_with s 0 ps x up) ∙ e);
}

-- ---- hearing a Join

-- after a Join the sets are not too large, and they keep the rules
pub record IsHeard (me : ℕ) (s : Sets) : Type 0 where
  pub processes : length s.processes ≤ 32
  pub failed : length s.failed ≤ 32
  pub standing : IsStanding me s

-- so it is if the failed are a part, and the process itself is among the others
stands : (me : ℕ) (s : Sets) → Up 0 s.processes → Up 0 s.failed → IsPart s.failed s.processes → length s.processes ≤ 32 → has s.processes me ≡ true → has s.failed me ≡ false → IsHeard me s
stands me s ps fs part few mine still = record {
  processes = few;
  failed = omega (arith, few, no_longer 0 0 s.failed s.processes fs ps part);
  standing = record { known = within_from s.failed s.processes part; mine = mine; standing = ap not still };
}

module _ (g : Gather) (j : Join) (is : IsGather g) (others : IsProcesses j.processes) (not_stranger : is_stranger g j ≡ false) where
  join : IsTaken g j
  join = taken g j not_stranger

  ps : Up 0 g.sets.processes
  ps = up_of g.sets.processes is.processes

  fs : Up 0 g.sets.failed
  fs = up_of g.sets.failed is.failed

  qs : Up 0 j.processes
  qs = up_of j.processes others

  known : IsPart g.sets.failed g.sets.processes
  known = part_of g.sets.failed g.sets.processes is.standing.known

  still : has g.sets.failed g.me ≡ false
  still = not-true (has g.sets.failed g.me) is.standing.standing

  pub turned : IsHeard g.me (turning_away g.sets j)
  turned =
      let some : 0 < j.sender = above 0 j.processes j.sender qs join.sender in
      let more : Up 0 (with_process g.sets.processes j.sender) = up_with j.sender 0 g.sets.processes some ps in
      stands g.me (turning_away g.sets j) more (up_with j.sender 0 g.sets.failed some fs) (with_part j.sender g.sets.failed g.sets.processes fs ps known)
      (omega (arith, join.few, no_longer 0 0 (with_process g.sets.processes j.sender) (union g.sets.processes j.processes) more (up_union g.sets.processes 0 j.processes ps qs) (with_in_union j.sender g.sets.processes j.processes ps qs join.sender)))
      (has_with j.sender 0 g.sets.processes g.me ps ∙ or_left (has g.sets.processes g.me) (j.sender == g.me) is.standing.mine)
      (has_with j.sender 0 g.sets.failed g.me fs ∙ or_from (has g.sets.failed g.me) (j.sender == g.me) still (ne_eqb j.sender g.me join.other))

  pub heard : IsProcesses j.failed → has j.failed g.me ≡ false → IsHeard g.me (joined g.sets j)
  heard gone not_failed =
      let gs : Up 0 j.failed = up_of j.failed gone in
      stands g.me (joined g.sets j) (up_union g.sets.processes 0 j.processes ps qs) (up_union g.sets.failed 0 j.failed fs gs)
      (union_part g.sets.processes g.sets.failed j.processes j.failed ps fs qs gs known (part_of j.failed j.processes join.known))
      join.few
      (has_union g.sets.processes 0 j.processes g.me ps qs ∙ or_left (has g.sets.processes g.me) (has j.processes g.me) is.standing.mine)
      (has_union g.sets.failed 0 j.failed g.me fs gs ∙ or_from (has g.sets.failed g.me) (has j.failed g.me) still not_failed)

-- ---- a timeout

pub given_up : (g : Gather) → IsGather g → IsHeard g.me (record { processes = g.sets.processes; failed = union g.sets.failed (filter (λ p. not (agrees g p)) (gathered g)) })
given_up g is =
    stands g.me (record { processes = g.sets.processes; failed = union g.sets.failed late }) ps (up_union g.sets.failed 0 late fs ls) part is.processes.few is.standing.mine
    (has_union g.sets.failed 0 late g.me fs ls ∙ or_from (has g.sets.failed g.me) (has late g.me) (not-true (has g.sets.failed g.me) is.standing.standing) i_agree)
  where
    late : List ℕ
    late = filter (λ p. not (agrees g p)) (gathered g)

    ps : Up 0 g.sets.processes
    ps = up_of g.sets.processes is.processes

    fs : Up 0 g.sets.failed
    fs = up_of g.sets.failed is.failed

    ls : Up 0 late
    ls = up_of late (part_is (λ p. not (agrees g p)) (gathered g) (part_is (λ p. not (has g.sets.failed p)) g.sets.processes is.processes))

    late_is : (x : ℕ) → has late x ≡ ((has g.sets.processes x && not (has g.sets.failed x)) && not (agrees g x))
    late_is x = has_filter (λ p. not (agrees g p)) (gathered g) x ∙ ap (λ b. b && not (agrees g x)) (has_filter (λ p. not (has g.sets.failed p)) g.sets.processes x)

    part : IsPart (union g.sets.failed late) g.sets.processes
    part = record {
      had = λ x e.
          ⊎_elim
          (λ old. (part_of g.sets.failed g.sets.processes is.standing.known).had x old)
          (λ new. (and_parts (has g.sets.processes x) (not (has g.sets.failed x)) (and_parts (has g.sets.processes x && not (has g.sets.failed x)) (not (agrees g x)) (sym (late_is x) ∙ new)).0).0)
          (or_cases (has g.sets.failed x) (has late x) (sym (has_union g.sets.failed 0 late x fs ls) ∙ e));
    }

    i_agree : has late g.me ≡ false
    i_agree = late_is g.me ∙ and_right (has g.sets.processes g.me && not (has g.sets.failed g.me)) (not (agrees g g.me)) (ap not (or_left (g.me == g.me) _ (eq-eqb g.me g.me refl)))

-- ---- who is gathered

-- the process itself is gathered
pub gathered_has_me : (g : Gather) → IsGather g → has (gathered g) g.me ≡ true
gathered_has_me g is = has_filter (λ p. not (has g.sets.failed p)) g.sets.processes g.me ∙ and_from (has g.sets.processes g.me) (not (has g.sets.failed g.me)) is.standing.mine is.standing.standing

-- and so each consensus has it
pub consensus_has_me : (g : Gather) → IsGather g → IfSome (consensus g) (λ m. IsTrue (has m g.me))
consensus_has_me g is = by_all (list_all (agrees g) (gathered g))
  where
    by_all : (all : Bool) → IfSome (if all then Some (gathered g) else None) (λ m. IsTrue (has m g.me))
    by_all true = gathered_has_me g is
    by_all false = tt

-- a set that was made is the set that was to be made
pub made_is : (made : Result (List ℕ) TooMany) (p set : List ℕ) → made ≡ Ok p → Makes made set → p ≡ set
made_is (Ok q) p set e makes = let first = makes.0 in cc
made_is (Err many) p set e makes = absurd cc

-- and keeps the invariant as that set does
pub standing_so : (me : ℕ) (s : Sets) (ps fs : List ℕ) → ps ≡ s.processes → fs ≡ s.failed → IsStanding me s → IsStanding me (record { processes = ps; failed = fs })
standing_so me s ps fs same gone stands = rw (same, gone) stands
