-- Searching for what breaks 2.4, change by change: what is found is the least list that breaks it. And what is noted of the changes
-- for that.
use Rattle.totem_judge_run.proofs.Common.{All, Contains, slice_get_within, RingId, ConfId, Regular, Transitional, Place, Entry, Conf, Log, log_of, IsChange, IsRegular, IsTransitional, ChangesNext, IsNextOrEnd, less_or_not}
use Rattle.std.proofs.Common.{◌≡◌, ◌≢◌, ℕ, ◌+◌, ◌<◌, ◌≤◌, ◌⊎◌, inl, inr, List, [], ◌∷◌, length, slice_get, Option, Some, None, Result, Ok, Err, IfOk, MatchOption, Bool, true, false, not, IsTrue, ◌↔◌, refl, sym, subst, ap, ◌∙◌, arith}
use Rattle.totem_evs.specs.ChangeFaults.{BeginsTransitional, AreWrongNeighbours, BreaksTurns}
use Rattle.totem_evs.specs.declared.spec.SpecNo.TheVariants as spec
use Rattle.totem_evs.specs.Answers.{ComesFirst, IsLeast, TakeTurns, Finds}
use Rattle.totem_search.specs.Search.{place, NoneFrom, IsLeastFrom, Begins, EachBegins, HoldsOfNone}
use Rattle.totem_evs.proofs.NextChanges.{no_change, one_next}
use Rattle.totem_judge_run.specs.Succession.{IsWrongSuccession}
use Rattle.totem_search.specs.Turns.{HasNoSuccession, IsOfOtherRing, IsOtherOrigin, IsTurnRest, IsTurnFault}
use Rattle.totem_search.proofs.Searching.{begins_at}
use Rattle.totem_search.proofs.Deciding.{sure}
use Rattle.totem_names.proofs.Orderings.{place_strict}
use Rattle.totem_judge_run.proofs.Behind.{right_kinds, right_from, right_to, right_name}
use Rattle.totem_judge_run.proofs.Decisions.{same_ring_or_not, regular_or_transitional}

-- the next change at an index makes a succession
pub succession_to_next : (log : List Entry) (i j : ℕ) (x y : ConfId) (ms ns : List ℕ) → slice_get log i ≡ Some (Conf x ms) → slice_get log j ≡ Some (Conf y ns) → IsNextOrEnd log i j → ChangesNext log i j x y ms ns
succession_to_next log i j x y ms ns at_i at_j next = record { first = at_i; second = at_j; next = record { change = (y, (ns, at_j)); later = next.later; none_between = next.none_between } }

pub no_succession_to_end : (log : List Entry) (i j : ℕ) → IsNextOrEnd log i j → length log ≤ j → HasNoSuccession log i
no_succession_to_end log i j next end = record { none = λ k x y ms ns succession. next.none_between k succession.next.later (omega (arith, slice_get_within log k (Conf y ns) succession.second)) succession.next.change }

pub next_is_change : (log : List Entry) (i j : ℕ) (e : Entry) → IsNextOrEnd log i j → j < length log → slice_get log j ≡ Some e → ((x : ConfId) (ms : List ℕ) → e ≡ Conf x ms → ⊥) → ⊥
next_is_change log i j e next lt at other = no_change log j e at other (next.change lt)

-- no change is at n or later and before `at`
pub record NoneBetween (log : List Entry) (n at : ℕ) : Type 0 where
  pub none : (k : ℕ) → n ≤ k → k < at → IsChange log k → ⊥

pub none_between_yet : (log : List Entry) (n at : ℕ) → at ≤ n → NoneBetween log n at
none_between_yet log n at le = record { none = λ k from lt change. omega arith }

pub none_between_more : (log : List Entry) (n m k at : ℕ) (e : Entry) → n ≡ m + 1 → k ≡ m → slice_get log m ≡ Some e → ((x : ConfId) (ms : List ℕ) → e ≡ Conf x ms → ⊥) → NoneBetween log n at → NoneBetween log k at
none_between_more log n m k at e is is_m here other before = record {
  none = λ j from lt change. elim (less_or_not j n) [
    | inl under ↦ (let same : j ≡ m = omega arith in no_change log m e here other (rw same at change))
    | inr rest ↦ before.none j (elim rest [ inl over ↦ omega arith | inr same ↦ omega arith ]) lt change
  ];
}

pub none_before : (log : List Entry) (n at : ℕ) → n ≡ 0 → NoneBetween log n at → IsTrue false ↔ ((k : ℕ) × (k < at) × IsChange log k)
none_before log n at is before = (λ t. absurd cc, λ (k, lt, change). absurd (before.none k (omega arith) lt change))

-- the first change of a log
pub begins_decided : (log : List Entry) (i : ℕ) (x : ConfId) (ms : List ℕ) (before : Bool) → slice_get log i ≡ Some (Conf x ms) → IsTransitional x → IsTrue before ↔ ((k : ℕ) × (k < i) × IsChange log k)
    → IsTrue (not before) ↔ BeginsTransitional log i
begins_decided log i x ms true at moves decides = (λ t. absurd cc, λ (y, change, moves', none). absurd (let found = decides.0 refl in none found.0 found.1 found.2))
begins_decided log i x ms false at moves decides = (λ _. (x, (ms, at), moves, λ k lt h. let t = decides.1 (k, lt, h) in cc), λ _. refl)

pub begins_regular : (log : List Entry) (i : ℕ) (x : ConfId) (ms : List ℕ) (b : Bool) → slice_get log i ≡ Some (Conf x ms) → b ≡ false → IsTrue b ↔ IsTransitional x → IsTrue b ↔ BeginsTransitional log i
begins_regular log i x ms b at is decides = (λ t. absurd cc, λ (y, (ns, h), moves, none). let same : y ≡ x = cc in decides.1 (rw same at moves))

pub begins_no_change : (log : List Entry) (i : ℕ) (e : Entry) → slice_get log i ≡ Some e → ((x : ConfId) (ms : List ℕ) → e ≡ Conf x ms → ⊥) → IsTrue false ↔ BeginsTransitional log i
begins_no_change log i e at other = (λ t. absurd cc, λ (y, (ns, h), moves, none). absurd (other y ns cc))

pub ruleset begins = (begins_decided, begins_regular, begins_no_change)

-- a log goes from a change to one next change
pub record SameTurn (j k : ℕ) (x x' y y' : ConfId) (ms ms' ns ns' : List ℕ) : Type 0 where
  pub at : j ≡ k
  pub conf : x ≡ x'
  pub members : ms ≡ ms'
  pub next : y ≡ y'
  pub next_members : ns ≡ ns'

pub one_succession : (log : List Entry) (i j k : ℕ) (x x' y y' : ConfId) (ms ms' ns ns' : List ℕ) → ChangesNext log i j x y ms ns → ChangesNext log i k x' y' ms' ns' → SameTurn j k x x' y y' ms ms' ns ns'
one_succession log i j k x x' y y' ms ms' ns ns' a b =
    let same : j ≡ k = one_next log i j k a.next b.next in
    let first = a.first in
    let other_first = b.first in
    let second : slice_get log k ≡ Some (Conf y ns) = rw same at a.second in
    let other_second = b.second in
    record { at = same; conf = cc; members = cc; next = cc; next_members = cc }

-- the ways in which a succession is wrong
pub wrong_succession : (x y : ConfId) (ms ns : List ℕ)
    → (IsRegular x × IsRegular y) ⊎ (IsTransitional x × IsTransitional y)
    ⊎ (IsRegular x × IsTransitional y × (All (Contains ms) ns → ⊥)) ⊎ (IsTransitional x × IsRegular y × (All (Contains ns) ms → ⊥))
    ⊎ ((next c : RingId) × (least : ℕ) × (x ≡ Transitional least next) × (y ≡ Regular c) × (c ≢ next)) → IsWrongSuccession x ms y ns
wrong_succession x y ms ns h = grind arith

pub wrong_neighbours : (log : List Entry) (i j : ℕ) (x y : ConfId) (ms ns : List ℕ) → ChangesNext log i j x y ms ns → IsWrongSuccession x ms y ns → AreWrongNeighbours log i j
wrong_neighbours log i j x y ms ns succession w = grind arith

same_wrong : (x x' y y' : ConfId) (ms ms' ns ns' : List ℕ) → x' ≡ x → ms' ≡ ms → y' ≡ y → ns' ≡ ns → IsWrongSuccession x' ms' y' ns' → IsWrongSuccession x ms y ns
same_wrong x x' y y' ms ms' ns ns' a b c d h = grind arith

pub succession_within : (log : List Entry) (i j : ℕ) (x y : ConfId) (ms ns : List ℕ) → ChangesNext log i j x y ms ns → i < length log
succession_within log i j x y ms ns succession = slice_get_within log i (Conf x ms) succession.first

place_of : (p j k : ℕ) (f : Place) → p ≡ f.proc → f.at ≡ k + 1 → j ≡ k → place p j ≡ f
place_of p j k f procs at same = rw (procs, same, ← at) refl

pub succession_of_rest : (run : List Log) (p i j : ℕ) (rest : List Place) → IsTurnRest run p i j rest → (x y : ConfId) × (ms ns : List ℕ) × ChangesNext (log_of run p) i j x y ms ns
succession_of_rest run p i j rest h = grind arith

-- no list begins where there is neither a succession nor a transitional first change
pub none_without_succession : (run : List Log) (p i : ℕ) → (BeginsTransitional (log_of run p) i → ⊥) → HasNoSuccession (log_of run p) i → NoneFrom (IsTurnFault run) p i
none_without_succession run p i not_first never = record { none = λ rest h. go rest h }
  where
    go : (rest : List Place) → IsTurnFault run (place p i ∷ rest) → ⊥
    go [] (k, is, h) = let same : k ≡ i = omega arith in not_first (rw same at h)
    go (f ∷ rest) (k, is, (j, js, (procs, h))) =
        let same : k ≡ i = omega arith in
        let found = succession_of_rest run p i j rest (rw same at h) in never.none j found.0 found.1 found.2 found.3 found.4

-- what may follow p's two changes in a list that breaks 2.4
abbrev IsTurnAfter : List Log → ℕ → ConfId → List ℕ → ConfId → List ℕ → List Place → Type 0
IsTurnAfter run p x ms y ns [] = IsWrongSuccession x ms y ns
IsTurnAfter run p x ms y ns (g ∷ rest) = (c : RingId) × (x ≡ Regular c) × IsOtherOrigin run p c y (g ∷ rest)

-- a list that begins with p's change goes on with its next change, at j
record GoesOn (run : List Log) (p j : ℕ) (x : ConfId) (ms : List ℕ) (y : ConfId) (ns : List ℕ) (places : List Place) : Type 0 where
  rest : List Place
  is : places ≡ place p j ∷ rest
  after : IsTurnAfter run p x ms y ns rest

goes_on : (run : List Log) (p i j : ℕ) (x y : ConfId) (ms ns : List ℕ) → (BeginsTransitional (log_of run p) i → ⊥) → ChangesNext (log_of run p) i j x y ms ns → (places : List Place) → IsTurnFault run (place p i ∷ places)
    → GoesOn run p j x ms y ns places
goes_on run p i j x y ms ns not_first succession [] (k, is, h) = let same : k ≡ i = omega arith in absurd (not_first (rw same at h))
goes_on run p i j x y ms ns not_first succession (f ∷ rest) (k, is, (l, ls, (procs, h))) = go rest (let same : k ≡ i = omega arith in rw same at h)
  where
    placed : (more : List Place) → j ≡ l → f ∷ more ≡ place p j ∷ more
    placed more at = ap (λ (h : Place). h ∷ more) (sym (place_of p j l f procs ls at))

    go : (more : List Place) → IsTurnRest run p i l more → GoesOn run p j x ms y ns (f ∷ more)
    go [] (x', y', ms', ns', succession', how) =
        let one = one_succession (log_of run p) i l j x' x y' y ms' ms ns' ns succession' succession in
        record { rest = []; is = placed [] (sym one.at); after = same_wrong x x' y y' ms ms' ns ns' one.conf one.members one.next one.next_members (wrong_succession x' y' ms' ns' how) }
    go (g ∷ more) (c, t, ks, os, moves, succession', other) =
        let one = one_succession (log_of run p) i j l x (Regular c) y t ms ks ns os succession succession' in
        record { rest = g ∷ more; is = placed (g ∷ more) one.at; after = (c, one.conf, subst (λ (z : ConfId). IsOtherOrigin run p c z (g ∷ more)) (sym one.next) other) }

-- the list ends with a change that may not be the next one
pub wrong_here : (run : List Log) (p i j : ℕ) (x y : ConfId) (ms ns : List ℕ) → (BeginsTransitional (log_of run p) i → ⊥) → ChangesNext (log_of run p) i j x y ms ns → IsWrongSuccession x ms y ns
    → IsLeastFrom (IsTurnFault run) p i (place p j ∷ [])
wrong_here run p i j x y ms ns not_first succession wrong = record {
  least = record {
    holds = (i, refl, (j, refl, (refl, wrong_neighbours (log_of run p) i j x y ms ns succession wrong)));
    first = λ others h. let on = goes_on run p i j x y ms ns not_first succession others h in rw on.is (inr (refl, tt));
  };
}

-- it may be the next one, and no other log comes there from elsewhere
pub none_after_right : (run : List Log) (p i j : ℕ) (x y : ConfId) (ms ns : List ℕ) → (BeginsTransitional (log_of run p) i → ⊥) → ChangesNext (log_of run p) i j x y ms ns → (IsWrongSuccession x ms y ns → ⊥)
    → ((c : RingId) → x ≡ Regular c → HoldsOfNone (IsOtherOrigin run p c y)) → NoneFrom (IsTurnFault run) p i
none_after_right run p i j x y ms ns not_first succession right none_else = record {
  none = λ rest h. let on = goes_on run p i j x y ms ns not_first succession rest h in go on.rest on.after;
}
  where
    go : (rest : List Place) → IsTurnAfter run p x ms y ns rest → ⊥
    go [] wrong = right wrong
    go (g ∷ rest) (c, is, other) = (none_else c is).none (g ∷ rest) other

-- it may be the next one, and another log comes there from elsewhere
pub some_after_right : (run : List Log) (p i j : ℕ) (x y : ConfId) (ms ns : List ℕ) (c : RingId) (rest : List Place) → (BeginsTransitional (log_of run p) i → ⊥) → ChangesNext (log_of run p) i j x y ms ns
    → (IsWrongSuccession x ms y ns → ⊥) → x ≡ Regular c → IsLeast (IsOtherOrigin run p c y) rest → IsLeastFrom (IsTurnFault run) p i (place p j ∷ rest)
some_after_right run p i j x y ms ns c rest not_first succession right is_c least = record {
  least = record {
    holds = (i, refl, (j, refl, (refl, known rest least.holds)));
    first = λ others h. let on = goes_on run p i j x y ms ns not_first succession others h in rw on.is (inr (refl, first on.rest on.after));
  };
}
  where
    moves_on : (z : ConfId) → z ≡ y → IsTransitional z
    moves_on z e = grind (arith, same_wrong)

    known : (rest : List Place) → IsOtherOrigin run p c y rest → IsTurnRest run p i j rest
    known [] h = absurd h
    known (g ∷ more) h = (c, y, ms, ns, moves_on y refl, rw is_c at succession, h)

    first : (more : List Place) → IsTurnAfter run p x ms y ns more → ComesFirst rest more
    first more h = grind arith

pub begins_here : (run : List Log) (p i : ℕ) → BeginsTransitional (log_of run p) i → IsLeastFrom (IsTurnFault run) p i []
begins_here run p i h = record { least = record { holds = (i, refl, h); first = λ others _. tt } }

-- another log's two changes
pub others_begin : (run : List Log) (p : ℕ) (c : RingId) (t : ConfId) → EachBegins run (IsOtherOrigin run p c t)
others_begin run p c t = record { each = λ places h. go places h }
  where
    go : (places : List Place) → IsOtherOrigin run p c t places → Begins run places
    go (g ∷ h ∷ []) (k, is, (l, ls, (same, (lt, d, ks, ls', never, succession)))) = begins_at run g k (h ∷ []) is (succession_within (log_of run g.proc) k l (Regular d) t ks ls' succession)
    go places b = absurd b

pub no_other_to_there : (run : List Log) (p : ℕ) (c : RingId) (t : ConfId) (q k j : ℕ) (x y : ConfId) (ms ns : List ℕ) → ChangesNext (log_of run q) k j x y ms ns → (IsOfOtherRing c x → y ≡ t → ⊥) → NoneFrom (IsOtherOrigin run p c t) q k
no_other_to_there run p c t q k j x y ms ns succession never = record { none = λ rest h. go rest h }
  where
    go : (rest : List Place) → IsOtherOrigin run p c t (place q k ∷ rest) → ⊥
    go (f ∷ []) (m, is, (l, ls, (procs, (lt, d, ks, os, other, succession')))) =
        let same : m ≡ k = omega arith in
        let one = one_succession (log_of run q) k j l x (Regular d) y t ms ks ns os succession (rw same at succession') in
        never (subst (IsOfOtherRing c) (sym one.conf) other) one.next
    go rest h = h

pub other_here : (run : List Log) (p : ℕ) (c : RingId) (t : ConfId) (q k j : ℕ) (x y : ConfId) (ms ns : List ℕ) → p < q → ChangesNext (log_of run q) k j x y ms ns → IsOfOtherRing c x → y ≡ t
    → IsLeastFrom (IsOtherOrigin run p c t) q k (place q j ∷ [])
other_here run p c t q k j (Transitional l n) y ms ns lt succession other same = absurd other
other_here run p c t q k j (Regular d) y ms ns lt succession other same = record {
  least = record {
    holds = (k, refl, (j, refl, (refl, (lt, d, ms, ns, other, rw same at succession))));
    first = λ others h. go others h;
  };
}
  where
    go : (others : List Place) → IsOtherOrigin run p c t (place q k ∷ others) → ComesFirst (place q j ∷ []) others
    go (f ∷ []) (m, is, (l, ls, (procs, (lt', e, ks, os, never, succession')))) =
        let here : m ≡ k = omega arith in
        let one = one_succession (log_of run q) k j l (Regular d) (Regular e) y t ms ks ns os succession (rw here at succession') in
        inr (place_of q j l f procs ls one.at, tt)
    go others h = absurd h

pub begins_not : (run : List Log) (p i : ℕ) (log : List Entry) (b : Bool) → log ≡ log_of run p → b ≡ false → IsTrue b ↔ BeginsTransitional log i → BeginsTransitional (log_of run p) i → ⊥
begins_not run p i log b is e decides h = let t : b ≡ true = decides.1 (rw is h) in cc

pub others_of_ring : (run : List Log) (p : ℕ) (x t : ConfId) (c d : RingId) → x ≡ Regular c → x ≡ Regular d → HoldsOfNone (IsOtherOrigin run p c t) → HoldsOfNone (IsOtherOrigin run p d t)
others_of_ring run p x t c d is_c is_d h = grind arith

-- ---- from the form of the search to what breaks 2.4

pub comes_before : (es fs gs : List Place) → ComesFirst es fs → ComesFirst fs gs → ComesFirst es gs
comes_before [] fs gs h k = tt
comes_before (e ∷ es) [] gs h k = absurd h
comes_before (e ∷ es) (f ∷ fs) [] h k = absurd k
comes_before (e ∷ es) (f ∷ fs) (g ∷ gs) (inl h) (inl k) = inl (place_strict.goes_on e f g h k)
comes_before (e ∷ es) (f ∷ fs) (g ∷ gs) (inl h) (inr (same, k)) = inl (rw same at h)
comes_before (e ∷ es) (f ∷ fs) (g ∷ gs) (inr (same, h)) (inl k) = inl (rw (← same) at k)
comes_before (e ∷ es) (f ∷ fs) (g ∷ gs) (inr (same, h)) (inr (same', k)) = inr (same ∙ same', comes_before es fs gs h k)

pub comes_itself : (es : List Place) → ComesFirst es es
comes_itself [] = tt
comes_itself (e ∷ es) = inr (refl, comes_itself es)

-- the least of some lists is the least of more, if each of those has one of the first at or before it
pub least_of_more : (H G : List Place → Type 0) (places : List Place) → ((ps : List Place) → H ps → G ps) → ((ps : List Place) → G ps → (qs : List Place) × H qs × ComesFirst qs ps) → IsLeast H places → IsLeast G places
least_of_more H G places to from least = grind (arith, comes_before)

pub turn_faults_break : (run : List Log) (ps : List Place) → IsTurnFault run ps → BreaksTurns run ps
turn_faults_break run ps h = grind arith

pub breaks_have_turn_faults : (run : List Log) (ps : List Place) → BreaksTurns run ps → (qs : List Place) × IsTurnFault run qs × ComesFirst qs ps
breaks_have_turn_faults run (e ∷ []) h = (e ∷ [], h, comes_itself (e ∷ []))
breaks_have_turn_faults run (e ∷ f ∷ []) (i, is, (j, js, (procs, inl h))) = (e ∷ f ∷ [], (i, is, (j, js, (procs, h))), comes_itself (e ∷ f ∷ []))
breaks_have_turn_faults run (e ∷ f ∷ []) (i, is, (j, js, (procs, inr h))) =
    (f ∷ e ∷ [], (j, js, (i, is, (sym procs, rw procs at h))), inl (inr (sym procs, earlier j i e.at f.at is js (log_of run e.proc) h)))
  where
    earlier : (j i m n : ℕ) → m ≡ i + 1 → n ≡ j + 1 → (log : List Entry) → AreWrongNeighbours log j i → n < m
    earlier j i m n is js log (x, y, ms, ns, succession, how) = let lt = succession.next.later in omega arith
breaks_have_turn_faults run (e ∷ f ∷ g ∷ h ∷ []) (i, is, (j, js, (k, ks, (l, ls, (procs, others, (lt, c, d, t, ms, ns, os, qs, moves, never, succession, succession')))))) =
    (e ∷ f ∷ g ∷ h ∷ [], (i, is, (j, js, (procs, (c, t, ms, ns, moves, succession, (k, ks, (l, ls, (others, (lt, d, os, qs, never, succession')))))))), comes_itself (e ∷ f ∷ g ∷ h ∷ []))
breaks_have_turn_faults run ps h = absurd h

pub turn_faults_begin : (run : List Log) → EachBegins run (IsTurnFault run)
turn_faults_begin run = record { each = λ places h. go places h }
  where
    go : (places : List Place) → IsTurnFault run places → Begins run places
    go [] h = absurd h
    go (e ∷ []) (i, is, (x, (ms, at), moves, none)) = begins_at run e i [] is (slice_get_within (log_of run e.proc) i (Conf x ms) at)
    go (e ∷ f ∷ rest) (i, is, (j, js, (procs, h))) = let found = succession_of_rest run e.proc i j rest h in
        begins_at run e i (f ∷ rest) is (succession_within (log_of run e.proc) i j found.0 found.1 found.2 found.3 found.4)

pub no_turn_faults : (run : List Log) → HoldsOfNone (IsTurnFault run) → TakeTurns run
no_turn_faults run never = record {
  each = λ p. record {
    regular_first = λ i x change none. elim (regular_or_transitional x) [
      | inl regular ↦ regular
      | inr moves ↦ absurd (never.none (place p i ∷ []) (i, refl, (x, change, moves, none)))
    ];
    turns = λ i j x y ms ns succession. right_kinds x y ms ns (right p i j x y ms ns succession);
    from = λ i j c y ms ns moves succession. right_from c y ms ns moves (right p i j (Regular c) y ms ns succession);
    to = λ i j x c ms ns moves succession. right_to x c ms ns moves (right p i j x (Regular c) ms ns succession);
    named = λ i j next c least ms ns succession. right_name next c least ms ns (right p i j (Transitional least next) (Regular c) ms ns succession);
  };
  origin = λ p i j q k l c d t ms ns ks ls lt moves first second. sure (same_ring_or_not c d)
      (λ other. never.none (place p i ∷ place p j ∷ place q k ∷ place q l ∷ [])
      (i, refl, (j, refl, (refl, (c, t, ms, ns, moves, first, (k, refl, (l, refl, (refl, (lt, d, ks, ls, other, second)))))))));
}
  where
    right : (p i j : ℕ) (x y : ConfId) (ms ns : List ℕ) → ChangesNext (log_of run p) i j x y ms ns → IsWrongSuccession x ms y ns → ⊥
    right p i j x y ms ns succession w = never.none (place p i ∷ place p j ∷ []) (i, refl, (j, refl, (refl, wrong_neighbours (log_of run p) i j x y ms ns succession w)))

pub turns_found : {F : Type 0} (run : List Log) (r : Result (Option (List Place)) F) → IfOk r (λ found. MatchOption found (HoldsOfNone (IsTurnFault run)) (IsLeast (IsTurnFault run))) → IfOk r (Finds run spec.Turns)
turns_found run (Err e) h = tt
turns_found run (Ok None) h = no_turn_faults run h
turns_found run (Ok (Some ps)) h = least_of_more (IsTurnFault run) (BreaksTurns run) ps (turn_faults_break run) (breaks_have_turn_faults run) h
