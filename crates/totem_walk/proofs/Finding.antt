-- Finding the log of a process among the logs of a run.
use Rattle.totem_walk.proofs.Common.{◌≡◌, ℕ, ◌+◌, ◌<◌, ◌≤◌, ◌⊎◌, inl, inr, List, [], length, slice_get, Some, Bool, true, false, ◌&&◌, refl, sym, ap, ◌∙◌, arith, slice_get_within, rank_of, id_of, life_of, log_of, log_of_cases, less_or_not}
use Rattle.std.proofs.Math.Dec.{eqb}
use Rattle.std.proofs.lemmas.Bool.{eq-eqb, eqb-true}
use Rattle.totem_names.proofs.RankParts.{rank_of_parts}
use Rattle.totem_evs.specs.declared.log.Log.{Log}

-- none of the first k logs is p's
pub record HasNoneOf (run : List Log) (p k : ℕ) : Type 0 where
  pub never : (j : ℕ) (log : Log) → j < k → slice_get run j ≡ Some log → log.proc ≡ p → ⊥

pub none_of_more : (run : List Log) (p k : ℕ) (log : Log) → slice_get run k ≡ Some log → (log.proc ≡ p → ⊥) → HasNoneOf run p k → HasNoneOf run p (k + 1)
none_of_more run p k log at other before = record {
  never = λ j l lt at_j same. elim (less_or_not j k) [
    | inl under ↦ before.never j l under at_j same
    | inr rest ↦ elim rest [
      | inl over ↦ omega arith
      | inr here ↦ (let there : slice_get run k ≡ Some l = rw here at at_j in let one : l ≡ log = cc in other (rw one at same))
    ]
  ];
}

pub none_of : (run : List Log) (p k : ℕ) → length run ≤ k → HasNoneOf run p k → [] ≡ log_of run p
none_of run p k end before = go (log_of_cases run p)
  where
    go : (log_of run p ≡ []) ⊎ ((j : ℕ) × (log : Log) × (slice_get run j ≡ Some log) × (log.proc ≡ p) × (log_of run p ≡ log.entries)) → [] ≡ log_of run p
    go (inl none) = sym none
    go (inr (j, log, at, same, is)) = absurd (before.never j log (let lt = slice_get_within run j log at in omega arith) at same)

-- what the comparison of two processes says
both_true : (s t : Bool) → true ≡ (s && t) → (s ≡ true) × (t ≡ true)
both_true true t e = (refl, sym e)
both_true false t e = absurd cc

same_parts : (a b : ℕ) → true ≡ (eqb (id_of a) (id_of b) && eqb (life_of a) (life_of b)) → a ≡ b
same_parts a b e =
    let h = both_true (eqb (id_of a) (id_of b)) (eqb (life_of a) (life_of b)) e in
    sym (rank_of_parts a)
    ∙ ap (λ (x : ℕ). rank_of x (life_of a)) (eqb-true (id_of a) (id_of b) h.0)
    ∙ ap (λ (x : ℕ). rank_of (id_of b) x) (eqb-true (life_of a) (life_of b) h.1)
    ∙ rank_of_parts b

pub is_other : (a b p : ℕ) → a ≡ b → false ≡ (eqb (id_of a) (id_of p) && eqb (life_of a) (life_of p)) → b ≡ p → ⊥
is_other a b p is e same =
    let ids = eq-eqb (id_of a) (id_of p) (ap (λ (x : ℕ). id_of x) (is ∙ same)) in
    let lives = eq-eqb (life_of a) (life_of p) (ap (λ (x : ℕ). life_of x) (is ∙ same)) in
    absurd (let h : false ≡ true = rw (ids, lives) at e in cc)

pub is_same : (a b p : ℕ) → a ≡ b → true ≡ (eqb (id_of a) (id_of p) && eqb (life_of a) (life_of p)) → b ≡ p
is_same a b p is e = sym is ∙ same_parts a p e
