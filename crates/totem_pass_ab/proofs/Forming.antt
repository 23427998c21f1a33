-- Entering changes, and what it shows.
use Rattle.totem_pass_ab.proofs.Common.{◌≡◌, ℕ, ◌+◌, inl, inr, List, [], ◌∷◌, Option, Some, refl, ap, subst, arith, Ordering, IsTotalOrder, BTreeMap, slice_get_within, ConfId, Place, Entry, Conf, Log, log_of, IsChange, IsMet, Keeps, KnowsRun, KnowsChange, place, HoldsOfNone, IsOneEvent, change_by}
use Rattle.std.specs.BTreeMap as tree
use Rattle.totem_table.specs.declared.keys.Change.{Change}
use Rattle.totem_search.specs.Pairs.{Has}
use Rattle.totem_search.specs.Bad.{AreTwoForms}
use Rattle.totem_pass_ab.proofs.Knowing.{meets_keeps}

module _ (by_change : Change → Change → Ordering) (by_conf : ConfId → ConfId → Ordering) where
  -- about an entry that is no change there is nothing to know
  pub spares_change : (v : BTreeMap Change (Option Place)) (f : BTreeMap ConfId (Option (List ℕ))) (p : ℕ) (log : List Entry) (i : ℕ) → (IsChange log i → ⊥) → KnowsChange by_change by_conf v f p log i
  spares_change v f p log i never = record { placed = λ x ms at. absurd (never (x, (ms, at))); formed = λ x ms at. absurd (never (x, (ms, at))) }

  pub keeps_changes : IsTotalOrder by_change → IsTotalOrder by_conf → (v w : BTreeMap Change (Option Place)) (f g : BTreeMap ConfId (Option (List ℕ))) (k : Change) (e : Place) (y : ConfId) (ns : List ℕ) → IsMet by_change v w k e → IsMet by_conf f g y ns
      → Keeps (KnowsChange by_change by_conf v f) (KnowsChange by_change by_conf w g)
  keeps_changes first second v w f g k e y ns met formed = record {
    each = λ p log i h. record {
      placed = λ x ms at. meets_keeps by_change first v w k e met (change_by p x) (place p i) (h.placed x ms at);
      formed = λ x ms at. meets_keeps by_conf second f g y ns formed x ms (h.formed x ms at);
    };
  }

  -- a configuration to which a process changed once, and which has one form, does not have two forms
  pub only_form : (run : List Log) (v : BTreeMap Change (Option Place)) (f : BTreeMap ConfId (Option (List ℕ))) (p i : ℕ) (x : ConfId) (ms : List ℕ) → KnowsRun (KnowsChange by_change by_conf v f) run
      → tree.get by_change v (change_by p x) ≡ Some (Some (place p i)) → tree.get by_conf f x ≡ Some (Some ms) → HoldsOfNone (IsOneEvent (Has run (AreTwoForms p i (Conf x ms))))
  only_form run v f p i x ms known once one = record { none = λ places h. go places h }
    where
      go : (places : List Place) → IsOneEvent (Has run (AreTwoForms p i (Conf x ms))) places → ⊥
      go (g ∷ []) (j, js, (Conf y ns, at, (same, inl (procs, other)))) =
          let key : change_by p x ≡ change_by g.proc y = rw (procs, same) refl in
          let met = ((known.each g.proc j (slice_get_within (log_of run g.proc) j (Conf y ns) at)).placed y ns at).only (place p i)
          (subst (λ (k : Change). tree.get by_change v k ≡ Some (Some (place p i))) key once) in
          other (let ats : i + 1 ≡ j + 1 = ap (λ (e : Place). e.at) met in omega arith)
      go (g ∷ []) (j, js, (Conf y ns, at, (same, inr other))) =
          other (((known.each g.proc j (slice_get_within (log_of run g.proc) j (Conf y ns) at)).formed y ns at).only ms (rw same at one))
      go (g ∷ []) (j, js, (other, at, h)) = h
      go places h = h
