-- A closed list has each of its places once, so there is one way to start it at its least place.
use Rattle.totem_cert.proofs.Common.{◌≡◌, ℕ, zero, suc, ◌+◌, ◌-◌, ◌<◌, ◌≤◌, ◌⊎◌, inl, inr, List, [], ◌∷◌, ◌++◌, length, drop, slice_get, Some, refl, sym, ◌∙◌, ap, subst, arith, append_assoc, length-drop, Contains, common_steps, slice_get_within, slice_get-get_or, append-nil, Contains-append_left, Contains-append_right, Contains-append_cases, Place, Log, IsAtMost, InClass, Step, ComesBack, unless, forward, IsTurned, BeginsLeast}
use Rattle.totem_cert.proofs.Classmates.{class_self, class_sym, event_of}
use Rattle.totem_cert.proofs.Walking.{antisym, step_in}
use Rattle.totem_cert.proofs.Closing.{drop_here}

-- e is not in the list
abbrev Fresh : Place → List Place → Type 0
Fresh e xs = Contains xs e → ⊥

abbrev IsDistinct : List Place → Type 0
IsDistinct [] = Unit {0}
IsDistinct (e ∷ es) = Fresh e es × IsDistinct es

head_in : (e : Place) (es : List Place) → Contains (e ∷ es) e
head_in e es = (0, omega arith, refl)

tail_in : (e f : Place) (es : List Place) → Contains es f → Contains (e ∷ es) f
tail_in e f es (k, lt, is) = (suc k, omega arith, is)

in_cases : (e f : Place) (es : List Place) → Contains (e ∷ es) f → (e ≡ f) ⊎ Contains es f
in_cases e f es h = grind (arith, common_steps)

in_none : (f : Place) → Contains [] f → ⊥
in_none f (k, lt, is) = omega arith

distinct_append : (xs ys : List Place) → IsDistinct xs → IsDistinct ys → ((f : Place) → Contains xs f → Contains ys f → ⊥) → IsDistinct (xs ++ ys)
distinct_append [] ys a b apart = b
distinct_append (x ∷ xs) ys a b apart = (
  λ h. elim (Contains-append_cases xs ys x h) [ inl there ↦ a.0 there | inr there ↦ apart x (head_in x xs) there ],
  distinct_append xs ys a.1 b (λ f in_x in_y. apart f (tail_in x f xs in_x) in_y),
)

-- in a list of different places each has one index
one_split : (f g b c : List Place) (x : Place) → IsDistinct (f ++ (x ∷ b)) → f ++ (x ∷ b) ≡ g ++ (x ∷ c) → (f ≡ g) × (b ≡ c)
one_split [] [] b c x d e = (refl, cc)
one_split [] (y ∷ g) b c x d e = grind (arith, common_steps, Contains-append_right g (x ∷ c) x)
one_split (y ∷ f) [] b c x d e = grind (arith, common_steps, Contains-append_right f (x ∷ b) x)
one_split (y ∷ f) (z ∷ g) b c x d e = grind (arith, one_split f g b c x d.1)

-- a turned list, given its first place
record Turned (whole turned : List Place) : Type 0 where
  first : Place
  front : List Place
  back : List Place
  was : whole ≡ front ++ (first ∷ back)
  is : turned ≡ first ∷ (back ++ front)

turned_at : (whole turned : List Place) → IsTurned whole turned → BeginsLeast turned → Turned whole turned
turned_at whole turned t least = go t.front t.back t.was t.is
  where
    go : (front back : List Place) → whole ≡ front ++ back → turned ≡ back ++ front → Turned whole turned
    go [] [] was is = absurd (let h : BeginsLeast [] = rw is at least in h)
    go (x ∷ front) [] was is = record { first = x; front = []; back = front; was = was ∙ append-nil (x ∷ front); is = is ∙ ap (λ ys. x ∷ ys) (sym (append-nil front)) }
    go front (x ∷ back) was is = record { first = x; front = front; back = back; was = was; is = is }

at_most_all : (x : Place) (xs : List Place) (f : Place) → BeginsLeast (x ∷ xs) → Contains xs f → IsAtMost x f
at_most_all x xs f least (k, lt, is) = least k f (slice_get-get_or xs k f lt ∙ ap Some is)

-- the first place of a turned list is at most each place of the whole list
first_least : (whole turned : List Place) (t : Turned whole turned) → BeginsLeast turned → (f : Place) → Contains whole f → IsAtMost t.first f
first_least whole turned t least f h =
    let l : BeginsLeast (t.first ∷ (t.back ++ t.front)) = rw t.is at least in
    let k : Contains (t.front ++ (t.first ∷ t.back)) f = rw t.was at h in
    elim (Contains-append_cases t.front (t.first ∷ t.back) f k) [
      | inl in_front ↦ at_most_all t.first (t.back ++ t.front) f l (Contains-append_right t.back t.front f in_front)
      | inr rest ↦ elim (in_cases t.first f t.back rest) [
        | inl same ↦ inr (ap (λ (e : Place). e.proc) same, (let e : t.first.at ≡ f.at = ap (λ (e : Place). e.at) same in omega arith))
        | inr in_back ↦ at_most_all t.first (t.back ++ t.front) f l (Contains-append_left t.back t.front f in_back)
      ]
    ]

first_in : (whole turned : List Place) (t : Turned whole turned) → Contains whole t.first
first_in whole turned t = subst (λ (ws : List Place). Contains ws t.first) (sym t.was) (Contains-append_right t.front (t.first ∷ t.back) t.first (head_in t.first t.back))

pub one_turn : (whole a b : List Place) → IsDistinct whole → IsTurned whole a → IsTurned whole b → BeginsLeast a → BeginsLeast b → a ≡ b
one_turn whole a b distinct turned_a turned_b least_a least_b =
    let s = turned_at whole a turned_a least_a in
    let t = turned_at whole b turned_b least_b in
    let one : s.first ≡ t.first = antisym s.first t.first
    (first_least whole a s least_a t.first (first_in whole b t))
    (first_least whole b t least_b s.first (first_in whole a s)) in
    let e : s.front ++ (s.first ∷ s.back) ≡ t.front ++ (s.first ∷ t.back) = sym s.was ∙ t.was ∙ ap (λ (x : Place). t.front ++ (x ∷ t.back)) (sym one) in
    let d : IsDistinct (s.front ++ (s.first ∷ s.back)) = subst (λ (ws : List Place). IsDistinct ws) s.was distinct in
    let r = one_split s.front t.front s.back t.back s.first d e in
    s.is ∙ ap (λ (x : Place). x ∷ (s.back ++ s.front)) one ∙ ap (λ (xs : List Place). t.first ∷ (xs ++ s.front)) r.1 ∙ ap (λ (xs : List Place). t.first ∷ (t.back ++ xs)) r.0 ∙ sym t.is

split : (ys : List Step) (t : ℕ) (v : Step) (vs : List Step) → v ∷ vs ≡ drop t ys → (slice_get ys t ≡ Some v) × (vs ≡ drop (suc t) ys)
split [] zero v vs h = absurd cc
split [] (suc t) v vs h = absurd cc
split (y ∷ ys) zero v vs h = (let e : v ≡ y = cc in ap Some (sym e), cc)
split (y ∷ ys) (suc t) v vs h = split ys t v vs h

append_move : (xs ys : List Place) (x : Place) → xs ++ (x ∷ ys) ≡ (xs ++ x ∷ []) ++ ys
append_move xs ys x = simp append_assoc

regroup : (xs ys : List Place) (x y : Place) → (xs ++ (x ∷ ys)) ++ y ∷ [] ≡ (xs ++ x ∷ []) ++ (ys ++ y ∷ [])
regroup xs ys x y = simp append_assoc

-- an event, left out if the other one equals it
unless_cases : (e p : Place) → ((e ≡ p) × (unless e p ≡ [])) ⊎ ((e ≡ p → ⊥) × (unless e p ≡ e ∷ []))
unless_cases e p = grind (arith, common_steps)

in_unless : (e p f : Place) → Contains (unless e p) f → (e ≡ f) × (e ≡ p → ⊥)
in_unless e p f h = grind (arith, common_steps)

unless_distinct : (e p : Place) → IsDistinct (unless e p)
unless_distinct e p = elim (unless_cases e p) [ inl (_, none) ↦ rw none tt | inr (_, one) ↦ rw one ((λ h. in_none e h), tt) ]

module _ (run : List Log) (start : Place) (xs : List Step) (again : ℕ) (last : Step) (back : ComesBack run start xs again last) where
  -- e follows the steps from t on in forward order: it is in the class of the step at t, or is where the last step came from
  record Follows (t : ℕ) (e : Place) : Type 0 where
    shares : (w : Step) → slice_get xs t ≡ Some w → InClass run w.to e
    end : length xs ≤ t → e ≡ last.from

  follows_step : (t : ℕ) (v : Step) → slice_get xs t ≡ Some v → Follows (suc t) v.from
  follows_step t v at = record {
    shares = λ w at_w. (let one : t + 1 ≡ suc t = omega arith in class_sym run v.from w.to (back.walk.next t v w at (rw one at_w)).shares);
    end = λ le. (
        let lt = slice_get_within xs t v at in
        let one : length xs - 1 ≡ t = omega arith in
        let same : v ≡ last = (let h : slice_get xs t ≡ Some last = rw one at back.at_end in cc) in
        ap (λ (u : Step). u.from) same);
  }

  -- an event that a step from t on writes
  abbrev Written : ℕ → Place → Type 0
  Written t e = ((i : ℕ) × (t ≤ i) × (w : Step) × (slice_get xs i ≡ Some w) × InClass run w.to e) ⊎ (e ≡ last.from)

  -- what the step at t leads to is not written by later steps
  clash : (t : ℕ) (v : Step) (e : Place) → slice_get xs t ≡ Some v → InClass run v.to e → (e ≡ last.from → again ≡ t → ⊥) → Written (suc t) e → ⊥
  clash t v e at shares other h = grind (arith, common_steps)

  to_itself : (t : ℕ) (v : Step) → slice_get xs t ≡ Some v → InClass run v.to v.to
  to_itself t v at = let s = step_in run start xs t v back.walk at in class_self run v.to (event_of run s.0 v.to s.1.shares)

  -- a place that the step at t writes is in its class
  written_here : (t : ℕ) (v : Step) (p e : Place) → slice_get xs t ≡ Some v → Follows t p → Contains (unless v.to p ++ p ∷ []) e → InClass run v.to e
  written_here t v p e at follows h = elim (Contains-append_cases (unless v.to p) (p ∷ []) e h) [
    | inl led ↦ (let same = (in_unless v.to p e led).0 in rw (← same) (to_itself t v at))
    | inr more ↦ elim (in_cases p e [] more) [ inl same ↦ rw (← same) (follows.shares v at) | inr none ↦ absurd (in_none e none) ]
  ]

  written : (t : ℕ) (vs : List Step) (p e : Place) → vs ≡ drop t xs → Follows t p → Contains (forward p vs ++ p ∷ []) e → Written t e
  written t [] p e is follows h = elim (in_cases p e [] h) [
    | inl same ↦ inr (sym same ∙ follows.end (let l : 0 ≡ length xs - t = ap length is ∙ length-drop t xs in omega arith))
    | inr none ↦ absurd (in_none e none)
  ]
  written t (v ∷ vs) p e is follows h =
      let s = split xs t v vs is in
      elim (Contains-append_cases (forward v.from vs ++ v.from ∷ []) (unless v.to p ++ p ∷ []) e (rw (regroup (forward v.from vs) (unless v.to p) v.from p) at h)) [
        | inl there ↦ elim (written (suc t) vs v.from e s.1 (follows_step t v s.0) there) [ inl (i, le, w, at_w, in_w) ↦ inl (i, omega arith, w, at_w, in_w) | inr same ↦ inr same ]
        | inr here ↦ inl (t, omega arith, v, s.0, written_here t v p e s.0 follows here)
      ]

  distinct : (t : ℕ) (vs : List Step) (p : Place) → vs ≡ drop t xs → again < t → Follows t p → IsDistinct (forward p vs ++ p ∷ [])
  distinct t [] p is lt follows = ((λ h. in_none p h), tt)
  distinct t (v ∷ vs) p is lt follows =
      let s = split xs t v vs is in
      rw (regroup (forward v.from vs) (unless v.to p) v.from p) (distinct_append (forward v.from vs ++ v.from ∷ []) (unless v.to p ++ p ∷ [])
      (distinct (suc t) vs v.from s.1 (omega arith) (follows_step t v s.0))
      (distinct_append (unless v.to p) (p ∷ []) (unless_distinct v.to p) ((λ h. in_none p h), tt) (λ f led more. elim (in_cases p f [] more) [
        | inl same ↦ (let u = in_unless v.to p f led in u.1 (u.0 ∙ sym same))
        | inr none ↦ in_none f none
      ]))
      (λ f there here. clash t v f s.0 (written_here t v p f s.0 follows here) (λ same at. omega arith) (written (suc t) vs v.from f s.1 (follows_step t v s.0) there)))

  -- the steps of the round are written with each place once
  pub round_distinct : IsDistinct (forward last.from (drop again xs))
  round_distinct =
      let v : Step = back.step in
      let first = follows_step again back.step back.at_again in
      rw (drop_here xs again back.step back.at_again, append_move (forward back.step.from (drop (suc again) xs)) (unless back.step.to last.from) back.step.from) (
      distinct_append (forward back.step.from (drop (suc again) xs) ++ back.step.from ∷ []) (unless back.step.to last.from)
      (distinct (suc again) (drop (suc again) xs) back.step.from refl (omega arith) first)
      (unless_distinct back.step.to last.from)
      (λ f there led. (let u = in_unless back.step.to last.from f led in
      clash again back.step f back.at_again (rw (← u.0) (to_itself again back.step back.at_again)) (λ same at. u.1 (u.0 ∙ same)) (written (suc again) (drop (suc again) xs) back.step.from f refl first there)))
      )
