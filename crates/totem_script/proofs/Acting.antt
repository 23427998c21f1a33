-- The steps of a process of a script.
use Rattle.totem_script.proofs.Common.{◌≡◌, ◌≢◌, ℕ, zero, suc, ◌<◌, ◌≤◌, ◌+◌, List, [], ◌∷◌, ◌++◌, length, true, false, cond, cond_both, Some, Ok, Err, nat_lt, refl, ap, ◌∙◌, arith, slice_get, nat_tests, RingName, Entry, Standing, Failed, Quiet, LogRecord, IsFailure, EndsInFail, IsClosedBy, Sending, Input, Node, new_node, IsRefused, first_change}
use Rattle.totem_evs.specs.declared.entry.Entry.TheVariants.{Conf, Send, Deliver, Fail}
use Rattle.totem_evs.specs.declared.ending.Ending.{Ending}
use Rattle.totem_core.specs.declared.fault.NodeFault.{NodeFault}
use Rattle.totem_core.specs.declared.fault.NodeFault.TheVariants as node
use Rattle.totem_core.specs.declared.ring_step.RingStep.{RingStep}
use Rattle.totem_core.specs.Table.{step}
use Rattle.totem_script.specs.declared.script_fault.ScriptFault.TheVariants.{TooMany}
use Rattle.totem_script.specs.Actors.{Actor, new_actor, after_step, actor_step, is_failure, ends_in_failure, log_with}

pub starts : (p : ℕ) (ring : RingName) (members : List ℕ) (n : Node) (earlier : List LogRecord) (entries : List Entry) → n ≡ new_node p ring members
    → earlier ≡ [] → entries ≡ first_change ring members ∷ []
    → record { proc = p; earlier = earlier; node = n; entries = entries } ≡ new_actor p ring members
unfolding new_actor
starts p ring members n earlier entries node none is = rw (is, node, none)

-- the node takes a step
module _ (a : Actor) (i : Input) (n : Node) where
  pub passed_over : (fault : NodeFault) → IsRefused fault a.node n (step a.node i) → fault ≢ node.Memory → (packets : List Sending) → packets ≡ []
      → actor_step a i ≡ Ok (record { actor = record { proc = a.proc; earlier = a.earlier; node = n; entries = a.entries }; packets = packets })
  unfolding actor_step
  passed_over fault refused other packets none = ap (after_step a) (refused.fault_is other) ∙ rw (refused.unchanged, none)

  module _ (packets : List Sending) (entries : List Entry) (ring_steps : List RingStep)
      (done : step a.node i ≡ Ok (record { node = n; packets = packets; entries = entries; ring_steps = ring_steps })) where
    pub too_many : 1000000 < length a.entries + length entries → actor_step a i ≡ Err TooMany
    unfolding actor_step
    too_many more =
        let test : nat_lt 1000000 (length a.entries + length entries) ≡ true = grind (arith, nat_tests) in
        ap (after_step a) done ∙ rw test

    pub goes_on : length a.entries + length entries ≤ 1000000 → (after : List Entry) → after ≡ a.entries ++ entries
        → actor_step a i ≡ Ok (record { actor = record { proc = a.proc; earlier = a.earlier; node = n; entries = after }; packets = packets })
    unfolding actor_step
    goes_on fits after is =
        let test : nat_lt 1000000 (length a.entries + length entries) ≡ false = grind (arith, nat_tests) in
        ap (after_step a) done ∙ rw (test, is)

failing : (e : Entry) → (IsFailure e → is_failure e ≡ true) × (is_failure e ≡ true → IsFailure e)
failing (Conf x members) = (λ h. absurd h, λ h. absurd cc)
failing (Send m x service) = (λ h. absurd h, λ h. absurd cc)
failing (Deliver m x) = (λ h. absurd h, λ h. absurd cc)
failing (Fail x) = (λ h. refl, λ h. tt)

end_seen : (entries : List Entry) (i : ℕ) (last : Entry) → length entries ≡ i + 1 → slice_get entries i ≡ Some last → IsFailure last → ends_in_failure entries ≡ true
unfolding ends_in_failure
end_seen [] i last many at h = absurd (omega arith)
end_seen (e ∷ []) zero last many at h = let same : e ≡ last = cc in rw same ((failing last).0 h)
end_seen (e ∷ []) (suc i) last many at h = absurd (omega arith)
end_seen (e ∷ f ∷ entries) zero last many at h = absurd (omega arith)
end_seen (e ∷ f ∷ entries) (suc i) last many at h = end_seen (f ∷ entries) i last (omega arith) at h

end_is : (entries : List Entry) → ends_in_failure entries ≡ true → EndsInFail entries
unfolding ends_in_failure
end_is [] h = absurd (cc)
end_is (e ∷ []) h = (0, e, refl, refl, (failing e).1 h)
end_is (e ∷ f ∷ entries) h =
    let rest : EndsInFail (f ∷ entries) = end_is (f ∷ entries) h in
    let more : length (e ∷ f ∷ entries) ≡ suc rest.0 + 1 = let many = rest.2 in omega arith in
    (suc rest.0, rest.1, more, rest.3, rest.4)

by_ending : (entries : List Entry) (ending : Ending) → IsClosedBy entries ending → ending ≢ Quiet → ends_in_failure entries ≡ false → ending ≡ Standing
by_ending entries Standing closed loud stands = refl
by_ending entries Quiet closed loud stands = absurd (loud refl)
by_ending entries Failed closed loud stands =
    let end : EndsInFail entries = closed.0 refl in
    let seen = end_seen entries end.0 end.1 end.2 end.3 end.4 in
    absurd (cc)

-- what is closed so ends so
pub closes : (entries : List Entry) (ending : Ending) → IsClosedBy entries ending → ending ≢ Quiet → ending ≡ cond (ends_in_failure entries) Failed Standing
closes entries ending closed loud =
    cond_both (ends_in_failure entries) Failed Standing (λ e. ending ≡ e) (λ is. closed.1 (end_is entries is)) (λ is. by_ending entries ending closed loud is)

-- the log of a process's entries, which ends as its entries say and is not quiet
pub recorded : (log : LogRecord) (p : ℕ) (given entries : List Entry) (ending : Ending) → log.proc ≡ p → log.entries ≡ given → given ≡ entries → log.ending ≡ ending
    → IsClosedBy given ending → ending ≢ Quiet → log ≡ (let whole : LogRecord = record { proc = p; entries = entries; ending = cond (ends_in_failure entries) Failed Standing } in whole)
recorded log p given entries ending proc is same ends closed loud =
    let seen : log.ending ≡ cond (ends_in_failure entries) Failed Standing = ends ∙ rw (← same) (closes given ending closed loud) in
    rw (← seen, ← same, ← is, ← proc)

-- the log is not quiet
pub recorded_loud : (log : LogRecord) (p : ℕ) (entries : List Entry) → log ≡ log_with p entries → log.ending ≢ Quiet
recorded_loud log p entries is = rw is (cond_both (ends_in_failure entries) Failed Standing (λ e. e ≢ Quiet) (λ t e. absurd cc) (λ t e. absurd cc))
