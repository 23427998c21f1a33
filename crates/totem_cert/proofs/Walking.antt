-- Walks from class to class.
use Rattle.totem_cert.proofs.Common.{◌≡◌, ℕ, zero, suc, ◌+◌, ◌-◌, ◌<◌, ◌⊎◌, inl, inr, List, [], ◌∷◌, ◌++◌, length, slice_get, Some, refl, sym, ap, arith, common_steps, length_push, slice_get_within, before_push, Place, Log, IsAtMost, InClass, Step, IsLeft, IsStepOf, IsWalk, IsVisitedAt, IsNotVisited, IsWalking, IsRound}
use Rattle.totem_cert.proofs.Classmates.{class_sym, class_trans}
use Rattle.totem_cert.proofs.Lists.{previous, last_at}

pub antisym : (e f : Place) → IsAtMost e f → IsAtMost f e → e ≡ f
antisym e f x y = grind (arith, common_steps)

-- a step by its ends
pub led_to : (v : Step) (e : Place) → v.to ≡ e → v ≡ record { from = v.from; to = e }
led_to v e same = ap (λ (t : Place). let u : Step = record { from = v.from; to = t } in u) same

pub left_from : (run : List Log) (k : Place) (v : Step) → IsStepOf run k v → IsLeft run v.from
left_from run k v step = elim step.holds [ inl prev ↦ prev.left | inr (_, least) ↦ least.send.left ]

-- two steps into one class lead to one event
pub one_step : (run : List Log) (k l : Place) (v w : Step) → IsStepOf run k v → IsStepOf run l w → InClass run v.to w.to → v.to ≡ w.to
one_step run k l v w a b same =
    antisym v.to w.to
    (a.least w.from w.to (class_trans run k v.to w.to a.shares same) b.holds)
    (b.least v.from v.to (class_trans run l w.to v.to b.shares (class_sym run v.to w.to same)) a.holds)

-- each step of a walk is the step of some class
pub step_in : (run : List Log) (start : Place) (steps : List Step) (i : ℕ) (v : Step) → IsWalk run start steps → slice_get steps i ≡ Some v → (k : Place) × IsStepOf run k v
step_in run start steps zero v walk at = (start, walk.first v at)
step_in run start steps (suc i) v walk at =
    let u = previous steps i v at in (u.0.from, walk.next i u.0 v u.1 (let h : i + 1 ≡ suc i = omega arith in rw h at))

next_step : (run : List Log) (start : Place) (steps : List Step) (next : Step) → IsWalking run start steps next → (k : Place) × IsStepOf run k next
next_step run start [] next walking = (start, walking.first refl)
next_step run start (x ∷ xs) next walking = let l = last_at x xs in (l.0.from, walking.later (length xs) l.0 l.1 (omega arith))

-- one more step
module _ (run : List Log) (start : Place) (steps : List Step) (next : Step) (walking : IsWalking run start steps next) (new : IsNotVisited steps next.to (length steps)) where
  pub walk_more : IsWalk run start (steps ++ next ∷ [])
  walk_more = record {
    first = λ v at. elim (before_push steps next 0 v at) [
      | inl h ↦ walking.walk.first v h
      | inr (e, same) ↦ rw (← same) (walking.first (sym e))
    ];
    next = λ i v w at_v at_w. after i v w (before_push steps next i v at_v) (before_push steps next (i + 1) w at_w);
    new = λ i j v w at_v at_w lt. fresh i j v w lt (before_push steps next i v at_v) (before_push steps next j w at_w);
  }
    where
      after : (i : ℕ) (v w : Step) → (slice_get steps i ≡ Some v) ⊎ ((i ≡ length steps) × (next ≡ v)) → (slice_get steps (i + 1) ≡ Some w) ⊎ ((i + 1 ≡ length steps) × (next ≡ w)) → IsStepOf run v.from w
      after i v w (inl at_v) (inl at_w) = walking.walk.next i v w at_v at_w
      after i v w (inl at_v) (inr (e, same)) = rw (← same) (walking.later i v at_v (sym e))
      after i v w (inr (e, same)) (inl at_w) = absurd (let lt = slice_get_within steps (i + 1) w at_w in omega arith)
      after i v w (inr (e, same)) (inr (e', same')) = absurd (omega arith)

      fresh : (i j : ℕ) (v w : Step) → i < j → (slice_get steps i ≡ Some v) ⊎ ((i ≡ length steps) × (next ≡ v)) → (slice_get steps j ≡ Some w) ⊎ ((j ≡ length steps) × (next ≡ w)) → InClass run v.to w.to → ⊥
      fresh i j v w lt (inl at_v) (inl at_w) shares = walking.walk.new i j v w at_v at_w lt shares
      fresh i j v w lt (inl at_v) (inr (e, same)) shares =
          let s = step_in run start steps i v walking.walk at_v in
          let t = next_step run start steps next walking in
          new.none i v (slice_get_within steps i v at_v) at_v (one_step run s.0 t.0 v next s.1 t.1 (rw (← same) at shares))
      fresh i j v w lt (inr (e, same)) (inl at_w) shares = let within = slice_get_within steps j w at_w in omega arith
      fresh i j v w lt (inr (e, same)) (inr (e', same')) shares = omega arith

  pub walking_more : (then : Step) → IsStepOf run next.from then → IsWalking run start (steps ++ next ∷ []) then
  walking_more then step = record {
    walk = walk_more;
    first = λ h. absurd (omega (arith, length_push steps next, h));
    later = λ i v at len. elim (before_push steps next i v at) [
      | inl h ↦ absurd (omega (arith, length_push steps next, slice_get_within steps i v h, len))
      | inr (e, same) ↦ rw (← same) step
    ];
  }

  pub left_next : IsLeft run next.from
  left_next = let t = next_step run start steps next walking in left_from run t.0 next t.1

-- a walk that returned to a class
pub round : (run : List Log) (start : Place) (steps : List Step) (next : Step) (again : ℕ) → IsWalking run start steps next → IsVisitedAt steps next.to again → IsRound run start steps again
round run start [] next again walking at = absurd (let h = at.at in cc)
round run start (x ∷ xs) next again walking at =
    let l = last_at x xs in
    let step = walking.later (length xs) l.0 l.1 (omega arith) in
    let e : length (x ∷ xs) - 1 ≡ length xs = omega arith in
    record {
      last = l.0;
      back = record {
        walk = walking.walk;
        step = at.step;
        at_again = at.at;
        at_end = rw e l.1;
        comes_back = rw at.same (class_sym run l.0.from next.to step.shares);
      };
    }
