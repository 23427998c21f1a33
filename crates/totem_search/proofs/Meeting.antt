-- Where nothing breaks 4, 5 or 6.3 in a regular configuration, the run meets it there.
use Rattle.totem_judge_run.proofs.Common.{◌≡◌, ◌<◌, inl, inr, List, [], ◌∷◌, refl, RingId, Log, log_of, Com}
use Rattle.totem_evs.proofs.Common.{AtomicityIn, CausalityIn, NoGapsIn, BreaksAtomicityIn, BreaksCausalityIn}
use Rattle.totem_evs.specs.AgreementFaults.{BreaksGapIn}
use Rattle.totem_judge_run.proofs.Decisions.{both_or_not, below_or_not}
use Rattle.totem_judge_run.proofs.SentOrNot.{in_or_not, same_conf_or_not}
use Rattle.totem_search.specs.Search.{place, HoldsOfNone}
use Rattle.totem_search.proofs.Deciding.{sure, delivery_or_not, has_delivered_or_not}

pub atomic : (run : List Log) (c : RingId) → HoldsOfNone (BreaksAtomicityIn run c) → AtomicityIn run c
atomic run c none = record {
  each = λ p q x d inside (a, b, from, next, to) (k, l, also_from, also_next, also_to) i m delivers. elim (delivery_or_not (λ j y. y ≡ x) (log_of run q) m (λ j y. same_conf_or_not y x)) [
    | inl (j, y, at, same) ↦ (j, rw same at at)
    | inr never ↦ absurd (none.none (place p i ∷ place p b ∷ place q l ∷ [])
        (i, refl, (b, refl, (l, refl, (refl, (x, inside, (m, d, delivers, (a, from, next, to), (k, also_from, also_next, also_to), λ j at. never j x at refl)))))))
  ];
}

pub causal : (run : List Log) (c : RingId) → HoldsOfNone (BreaksCausalityIn run c) → CausalityIn run c
causal run c none = record {
  each = λ m n e f send effect hop r j delivers. elim (delivery_or_not (λ l x. (l < j) × Com (log_of run r) c x) (log_of run r) m (λ l x. both_or_not (below_or_not l j) (in_or_not (log_of run r) c x))) [
    | inl (l, x, at, (lt, inside)) ↦ (l, lt, (x, at, inside))
    | inr never ↦ absurd (none.none (e ∷ f ∷ place r j ∷ []) (j, refl, (m, n, send, effect, hop, (delivers, λ l lt (x, at, inside). never l x at (lt, inside)))))
  ];
}

pub no_gaps : (run : List Log) (c : RingId) → HoldsOfNone (BreaksGapIn run c) → NoGapsIn run c
no_gaps run c none = record {
  each = λ m n p i j q k d earlier later lt at inside s l x send member. sure (has_delivered_or_not (log_of run q) c m)
      (λ lacks. none.none (place p i ∷ place p j ∷ place q k ∷ [])
      (i, refl, (j, refl, (k, refl, (refl, (m, n, d, x, s, l, earlier, later, lt, at, inside, send, member, lacks))))));
}
