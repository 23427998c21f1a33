-- A run has at most one closed list.
use Rattle.totem_cert.proofs.Common.{◌≡◌, ℕ, zero, suc, ◌+◌, ◌-◌, ◌<◌, inl, inr, List, [], ◌∷◌, length, drop, slice_get, Some, refl, sym, ◌∙◌, ap, subst, arith, common_steps, slice_get_within, Place, Log, SpecNo, Step, HoldsUp, IsStepOf, IsWalk, ComesBack, IsTurned, forward, IsBrokenBy, IsClosedList, ClosedListsAreOne, less_or_not}
use Rattle.totem_cert.proofs.Classmates.{class_trans, one_message}
use Rattle.totem_cert.proofs.LineFacts.{same_parts}
use Rattle.totem_cert.proofs.Lists.{at_index, previous}
use Rattle.totem_cert.proofs.Walking.{antisym}
use Rattle.totem_cert.proofs.Turning.{one_turn, round_distinct}

-- one entry holds another one up
one_holder : (run : List Log) (f g e : Place) → HoldsUp run f e → HoldsUp run g e → f ≡ g
one_holder run f g e (inl a) (inl b) = same_parts f g.proc g.at (a.proc ∙ sym b.proc) (let x = a.before in let y = b.before in omega arith)
one_holder run f g e (inl a) (inr (none, b)) = absurd (none f a)
one_holder run f g e (inr (none, a)) (inl b) = absurd (none g b)
one_holder run f g e (inr (_, a)) (inr (_, b)) =
    let same : a.message ≡ b.message = one_message run e a.message b.message a.delivers b.delivers in
    antisym f g (a.least g (rw same b.send)) (b.least f (rw (← same) a.send))

visit_same : (v w : Step) → v.from ≡ w.from → v.to ≡ w.to → v ≡ w
visit_same v w f t = ap (λ (e : Place). let x : Step = record { from = e; to = v.to } in x) f ∙ ap (λ (e : Place). let x : Step = record { from = w.from; to = e } in x) t

-- a class has at most one step
pub one_step_of : (run : List Log) (k : Place) (v w : Step) → IsStepOf run k v → IsStepOf run k w → v ≡ w
one_step_of run k v w a b =
    let to : v.to ≡ w.to = antisym v.to w.to (a.least w.from w.to b.shares b.holds) (b.least v.from v.to a.shares a.holds) in
    visit_same v w (one_holder run v.from w.from w.to (rw to at a.holds) b.holds) to

-- two walks from one event take the same steps
module _ (run : List Log) (start : Place) (xs ys : List Step) (a : IsWalk run start xs) (b : IsWalk run start ys) where
  pub same_steps : (i : ℕ) (v w : Step) → slice_get xs i ≡ Some v → slice_get ys i ≡ Some w → v ≡ w
  same_steps zero v w at_v at_w = one_step_of run start v w (a.first v at_v) (b.first w at_w)
  same_steps (suc i) v w at_v at_w =
      let u = previous xs i v at_v in
      let t = previous ys i w at_w in
      let same : u.0 ≡ t.0 = same_steps i u.0 t.0 u.1 t.1 in
      let e : i + 1 ≡ suc i = omega arith in
      one_step_of run u.0.from v w (a.next i u.0 v u.1 (rw e at_v)) (rw same (b.next i t.0 w t.1 (rw e at_w)))

  -- a walk that has returned is no shorter
  pub not_shorter : (again : ℕ) (last : Step) → ComesBack run start xs again last → length xs < length ys → ⊥
  not_shorter again last back lt =
      let end = slice_get_within xs (length xs - 1) last back.at_end in
      let within = slice_get_within xs again back.step back.at_again in
      let t = at_index ys (length xs - 1) (omega arith) in
      let w = at_index ys (length xs - 1 + 1) (omega arith) in
      let r = at_index ys again (omega arith) in
      let one : last ≡ t.0 = same_steps (length xs - 1) last t.0 back.at_end t.1 in
      let two : back.step ≡ r.0 = same_steps again back.step r.0 back.at_again r.1 in
      let step : IsStepOf run last.from w.0 = subst (λ (u : Step). IsStepOf run u.from w.0) (sym one) (b.next (length xs - 1) t.0 w.0 t.1 w.1) in
      b.new again (length xs - 1 + 1) r.0 w.0 r.1 w.1 (omega arith) (rw (← two) (class_trans run back.step.to last.from w.0.to back.comes_back step.shares))

same_list : (xs ys : List Step) → length xs ≡ length ys → ((i : ℕ) (v w : Step) → slice_get xs i ≡ Some v → slice_get ys i ≡ Some w → v ≡ w) → xs ≡ ys
same_list [] [] e h = refl
same_list [] (y ∷ ys) e h = absurd (omega arith)
same_list (x ∷ xs) [] e h = absurd (omega arith)
same_list (x ∷ xs) (y ∷ ys) e h = let rest = same_list xs ys (omega arith) (λ i v w at_v at_w. h (suc i) v w at_v at_w) in let one = h 0 x y refl refl in cc

-- two walks from one event that return are equal
pub one_walk : (run : List Log) (start : Place) (xs ys : List Step) (i j : ℕ) (v w : Step) → ComesBack run start xs i v → ComesBack run start ys j w → xs ≡ ys
one_walk run start xs ys i j v w a b = elim (less_or_not (length xs) (length ys)) [
  | inl under ↦ absurd (not_shorter run start xs ys a.walk b.walk i v a under)
  | inr (inl over) ↦ absurd (not_shorter run start ys xs b.walk a.walk j w b over)
  | inr (inr e) ↦ same_list xs ys e (same_steps run start xs ys a.walk b.walk)
]

-- and they return to the same class, at the same step
pub one_return : (run : List Log) (start : Place) (xs : List Step) (i j : ℕ) (v w : Step) → ComesBack run start xs i v → ComesBack run start xs j w → (i ≡ j) × (v ≡ w)
one_return run start xs i j v w a b = grind (arith, common_steps)

one_spec : (run : List Log) (k l : SpecNo) (a : List Place) → IsBrokenBy run k a → IsBrokenBy run l a → k ≡ l
one_spec run k l a x y = grind (arith, common_steps)

-- two closed lists whose walks start at one event
from_one : (run : List Log) (start : Place) (k l : SpecNo) (a b : List Place) (x : IsClosedList run k a) (y : IsClosedList run l b) → x.start ≡ start → y.start ≡ start → (k ≡ l) × (a ≡ b)
from_one run start k l a b x y at_x at_y =
    let back_x : ComesBack run start x.steps x.again x.last = rw at_x at x.back in
    let back_y : ComesBack run start y.steps y.again y.last = rw at_y at y.back in
    one_list x.steps y.steps x.again y.again x.last y.last back_x back_y (one_walk run start x.steps y.steps x.again y.again x.last y.last back_x back_y) x.written y.written
  where
    one_list : (xs ys : List Step) (i j : ℕ) (v w : Step) → ComesBack run start xs i v → ComesBack run start ys j w → xs ≡ ys → IsTurned (forward v.from (drop i xs)) a → IsTurned (forward w.from (drop j ys)) b → (k ≡ l) × (a ≡ b)
    one_list xs ys i j v w back_x back_y same written_x written_y =
        let back : ComesBack run start xs j w = rw same back_y in
        let r = one_return run start xs i j v w back_x back in
        let turned : IsTurned (forward v.from (drop i xs)) b = rw (r.0, r.1, same) written_y in
        let lists : a ≡ b = one_turn (forward v.from (drop i xs)) a b (round_distinct run start xs i v back_x) written_x turned x.least y.least in
        (one_spec run k l b (rw lists at x.broken) y.broken, lists)

pub closed_one : ClosedListsAreOne
closed_one run k l a b x y =
    let starts : x.start ≡ y.start = antisym x.start y.start (x.begins.least y.start y.begins.left) (y.begins.least x.start x.begins.left) in
    from_one run y.start k l a b x y starts refl
