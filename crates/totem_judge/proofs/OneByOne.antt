-- Judging one configuration after the other.
use Rattle.totem_judge.proofs.Common.{◌≡◌, inl, inr, ℕ, List, [], ◌∷◌, ◌++◌, length, slice_get, Some, sym, subst, arith, Contains, slice_get_within, RingId, Log, Pending, Numbering, Observed, has_log, before_push, stands_last, IsPendingFrom, IsPendingTo, IsObserved, IsVerified, AllAreTraffic, AreObserved, IsPendingIn}
use Rattle.std.proofs.lemmas.List.{length-append}
use Rattle.totem_judge.specs.declared.gathered.Gathered.{Gathered}
use Rattle.totem_judge.proofs.Steps.{append_get}

pub observed_none : (run : List Log) (lines : List Numbering) (observed : List Observed) (pending : List Pending) → observed ≡ [] → pending ≡ [] → AreObserved run lines [] observed pending
observed_none run lines observed pending nothing none = grind (arith, slice_get_within)

-- a process that is open has a log
pending_to : (run : List Log) (c : RingId) (x : Pending) → IsPendingIn run c x.proc x.msg → IsPendingTo run c (length run) x
pending_to run c x pending = grind (arith, has_log, slice_get_within)

module _ (run : List Log) (lines : List Numbering) (list : List Gathered) (g : Gathered) (observed : List Observed) (one : Observed) (old new : List Pending) (added : IsObserved run lines g one old new)
    (so_far : AreObserved run lines list observed old) where
  long : length (observed ++ one ∷ []) ≡ length (list ++ g ∷ [])
  long = let is = so_far.long in let a = length-append observed (one ∷ []) in let b = length-append list (g ∷ []) in omega arith

  -- where the one is last, so is the other
  verified : (k : ℕ) (h : Gathered) (other : Observed) → slice_get (list ++ g ∷ []) k ≡ Some h → slice_get (observed ++ one ∷ []) k ≡ Some other → IsVerified run lines h other
  verified k h other at here = elim (before_push list g k h at) [
    | inl before ↦ elim (before_push observed one k other here) [
      | inl earlier ↦ so_far.each k h other before earlier
      | inr (last, same) ↦ absurd (let lt = slice_get_within list k h before in let is = so_far.long in omega (arith, lt, is, last))
    ]
    | inr (last, same) ↦ elim (before_push observed one k other here) [
      | inl earlier ↦ absurd (let lt = slice_get_within observed k other earlier in let is = so_far.long in omega (arith, lt, is, last))
      | inr (end, equal) ↦ subst (λ (x : Gathered). IsVerified run lines x other) same (subst (λ (x : Observed). IsVerified run lines g x) equal added.verified)
    ]
  ]

  fewer : AllAreTraffic run lines (list ++ g ∷ []) → AllAreTraffic run lines list
  fewer are = record { each = λ k h traffic at seen. are.each k h traffic (append_get list (g ∷ []) k h at) seen }

  from : AllAreTraffic run lines (list ++ g ∷ []) → (x : Pending) → Contains new x → IsPendingFrom run (list ++ g ∷ []) (length (list ++ g ∷ [])) x
  from are x has = elim ((added.adds.exact g.ring (are.each (length list) g one.traffic (stands_last list g) added.verified.seen) x).0 has) [
    | inl before ↦ (
        let h = (so_far.exact (fewer are) x).0 before in
        let stands = append_get list (g ∷ []) h.at h.gathered h.stands in
        record { at = h.at; gathered = h.gathered; before = slice_get_within (list ++ g ∷ []) h.at h.gathered stands; stands = stands; is = h.is }
        )
    | inr pending ↦ record { at = length list; gathered = g; before = slice_get_within (list ++ g ∷ []) (length list) g (stands_last list g); stands = stands_last list g; is = pending.is }
  ]

  to : AllAreTraffic run lines (list ++ g ∷ []) → (x : Pending) → IsPendingFrom run (list ++ g ∷ []) (length (list ++ g ∷ [])) x → Contains new x
  to are x h =
      let gained = added.adds.exact g.ring (are.each (length list) g one.traffic (stands_last list g) added.verified.seen) x in
      elim (before_push list g h.at h.gathered h.stands) [
        | inl before ↦ gained.1 (inl ((so_far.exact (fewer are) x).1 (record { at = h.at; gathered = h.gathered; before = slice_get_within list h.at h.gathered before; stands = before; is = h.is })))
        | inr (last, same) ↦ gained.1 (inr (pending_to run g.ring x (subst (λ (y : Gathered). IsPendingIn run y.ring x.proc x.msg) (sym same) h.is)))
      ]

  pub observed_more : AreObserved run lines (list ++ g ∷ []) (observed ++ one ∷ []) new
  observed_more = record { long = long; each = λ k h other at here. verified k h other at here; exact = λ are x. (from are x, to are x) }
