-- Gathering, log by log, who waits in a run, in ascending order.
use Rattle.totem_judge_run.proofs.Common.{◌≡◌, ◌⊎◌, ◌↔◌, ℕ, suc, ◌+◌, ◌<◌, inl, inr, List, [], ◌∷◌, ◌++◌, slice_get, Some, sym, arith, All, AllPairs, Contains, All-append, All-tail, All-contains_itself, Contains-append_left, Contains-append_right, Contains-append_cases, Log, Rising, in_order, less_or_not, IsWaiting, WaitingBelow, AreWaitingAt}
use Rattle.std.proofs.lemmas.List.Kept.{AllPairs-cons}
use Rattle.totem_evs.specs.declared.pending.Waiting.{Waiting}

pairs_append : {X : Type 0} (R : X → X → Type 0) (xs ys : List X) → AllPairs R xs → AllPairs R ys → All (λ x. All (R x) ys) xs → AllPairs R (xs ++ ys)
pairs_append R [] ys first second across = second
pairs_append R (x ∷ xs) ys first second across =
    AllPairs-cons R x (xs ++ ys) (All-append (R x) xs ys (λ k d within. first 0 (suc k) d (omega arith) (omega arith)) (across 0 x (omega arith)))
    (pairs_append R xs ys (λ i j d lt within. first (suc i) (suc j) d (omega arith) (omega arith)) second (All-tail (λ z. All (R z) ys) x xs across))

-- p's log is among the first k
pub record HasLogBefore (run : List Log) (k p : ℕ) : Type 0 where
  pub index : ℕ
  pub log : Log
  pub before : index < k
  pub stands : slice_get run index ≡ Some log
  pub proc : log.proc ≡ p

-- who waits of the processes that have one of the first k logs
pub record Gathered (run : List Log) (k : ℕ) (list : List Waiting) : Type 0 where
  pub rising : AllPairs WaitingBelow list
  pub exact : (w : Waiting) → Contains list w ↔ (IsWaiting run w.proc w.conf w.other × HasLogBefore run k w.proc)

module _ (run : List Log) (k : ℕ) (log : Log) (at_k : slice_get run k ≡ Some log) where
  in_more : (p : ℕ) → HasLogBefore run (k + 1) p → HasLogBefore run k p ⊎ (p ≡ log.proc)
  in_more p h = grind (arith, less_or_not)

  kept : (p : ℕ) → HasLogBefore run k p → HasLogBefore run (k + 1) p
  kept p h = record { index = h.index; log = h.log; before = omega (arith, h.before); stands = h.stands; proc = h.proc }

  pub gathered_more : (list more : List Waiting) → Rising run → Gathered run k list → AreWaitingAt run log.proc more → Gathered run (k + 1) (list ++ more)
  gathered_more list more rising before now = record {
    rising = pairs_append WaitingBelow list more before.rising now.rising
        (λ i d within. λ j e lt. across _ _ (All-contains_itself list i d within) (All-contains_itself more j e lt));
    exact = λ w. (
      λ has. elim (Contains-append_cases list more w has) [
        | inl old ↦ let h = (before.exact w).0 old in (h.0, kept w.proc h.1)
        | inr new ↦ let h = (now.exact w).0 new in (h.0, record { index = k; log = log; before = omega arith; stands = at_k; proc = sym h.1 })
      ],
      λ h. elim (in_more w.proc h.1) [
        | inl old ↦ Contains-append_left list more w ((before.exact w).1 (h.0, old))
        | inr new ↦ Contains-append_right list more w ((now.exact w).1 (h.0, new))
      ],
    );
  }
    where
      across : (v w : Waiting) → Contains list v → Contains more w → WaitingBelow v w
      across v w old new =
          let h = ((before.exact v).0 old).1 in
          let g = (now.exact w).0 new in
          inl (rw (← h.proc, g.1) (in_order run h.index k h.log log rising h.stands at_k h.before))
