-- Entering sends and deliveries, and what it shows.
use Rattle.totem_pass_ab.proofs.Common.{◌≡◌, ◌≢◌, ◌⊎◌, ℕ, ◌+◌, ◌-◌, ◌<◌, ◌≤◌, inl, inr, List, [], ◌∷◌, ◌++◌, length, slice_get, slice_range, Option, Some, Bool, IsTrue, true, refl, sym, ap, subst, arith, rules, below_more, ◌==◌, Contains, Ordering, IsTotalOrder, BTreeMap, Contains-append_left, Contains-append_right, slice_get_within, get_or_from_slice_get, MsgId, ConfId, Place, Entry, Send, Deliver, Log, log_of, IsMet, Knows, DeliveriesAreOnce, SendsAreOnce, Keeps, KnowsRun, DeliverOnceBut, DeliversEachOnce, KnowsAct, place, HoldsOfNone, IsOneEvent, log_of_cases}
use Rattle.std.specs.BTreeMap as tree
use Rattle.std.proofs.Math.Seq.{drop-cons}
use Rattle.totem_names.specs.declared.message.Service.{Service}
use Rattle.totem_evs.specs.Delivery.{DeliversOnce}
use Rattle.totem_pass_ab.specs.declared.twice_1_4.Delivery.{Delivery}
use Rattle.totem_search.specs.Pairs.{Has}
use Rattle.totem_search.specs.Bad.{AreTwice}
use Rattle.totem_pass_ab.proofs.Knowing.{meets_knows, meets_keeps}

abbrev delivery : ℕ → MsgId → Delivery
delivery p m = record { proc = p; message = m }

one_of : (run : List Log) (k : ℕ) (log : Log) → slice_get run k ≡ Some log → slice_range run k (k + 1) ≡ log ∷ []
one_of run k log at =
    let one : (k + 1) - k ≡ 1 = omega arith in
    rw (one, drop-cons run k log (slice_get_within run k log at), get_or_from_slice_get run k log log at) refl

pub once_each : (run : List Log) (doubtful : List ℕ) → length doubtful ≡ 0 → SendsAreOnce run → DeliverOnceBut doubtful run → DeliversOnce run
once_each run doubtful none sends deliveries = record { one_send = sends.one; regular = sends.regular; one_delivery = λ p. deliveries.each p (λ (k, lt, is). omega arith) }

-- a process that is not doubtful delivers no message twice
pub once_delivery : (run : List Log) (doubtful : List ℕ) (p i : ℕ) (m : MsgId) (x : ConfId) → slice_get (log_of run p) i ≡ Some (Deliver m x) → (Contains doubtful p → ⊥) → DeliverOnceBut doubtful run → HoldsOfNone (IsOneEvent (Has run (AreTwice p i (Deliver m x))))
once_delivery run doubtful p i m x here sure once = record { none = λ places h. go places h }
  where
    go : (places : List Place) → IsOneEvent (Has run (AreTwice p i (Deliver m x))) places → ⊥
    go (f ∷ []) (j, js, (Deliver n y, at, (same, procs, other))) = other (once.each p sure i j m x y here (rw (procs, same) at))
    go (f ∷ []) (j, js, (act, at, h)) = h
    go places h = h

-- where sends don't repeat, no message is sent twice
pub once_send : (run : List Log) (p i : ℕ) (m : MsgId) (x : ConfId) (v : Service) → slice_get (log_of run p) i ≡ Some (Send m x v) → SendsAreOnce run → HoldsOfNone (IsOneEvent (Has run (AreTwice p i (Send m x v))))
once_send run p i m x v here once = record { none = λ places h. go places h }
  where
    apart : (q j : ℕ) → (p ≡ q) × (i ≡ j) → (p ≢ q) ⊎ (i ≢ j) → ⊥
    apart q j same (inl other) = other same.0
    apart q j same (inr other) = other same.1

    go : (places : List Place) → IsOneEvent (Has run (AreTwice p i (Send m x v))) places → ⊥
    go (f ∷ []) (j, js, (Send n y t, at, (same, other))) = apart f.proc j (once.one p i f.proc j m x y (v, here) (t, rw same at)) other
    go (f ∷ []) (j, js, (act, at, h)) = h
    go places h = h

-- ---- which processes are doubtful

-- the logs before the one at k deliver each message once, but for those of doubtful processes
pub record OnceBefore (doubtful : List ℕ) (run : List Log) (k : ℕ) : Type 0 where
  pub each : (j : ℕ) → j < k → (log : Log) → slice_get run j ≡ Some log → (Contains doubtful log.proc → ⊥) → DeliversEachOnce log.entries

next_log : (doubtful : List ℕ) (run : List Log) (k : ℕ) (log : Log) → slice_get run k ≡ Some log → ((Contains doubtful log.proc → ⊥) → DeliversEachOnce log.entries) → OnceBefore doubtful run k → OnceBefore doubtful run (k + 1)
next_log doubtful run k log at here before = record {
  each = below_more _ _ before.each (λ l at_k sure. (let one : log ≡ l = cc in (rw one at here) sure));
}

-- a log that is once
pub sure_log : (doubtful : List ℕ) (run : List Log) (k : ℕ) (log : Log) → slice_get run k ≡ Some log → DeliveriesAreOnce (slice_range run k (k + 1)) → OnceBefore doubtful run k → OnceBefore doubtful run (k + 1)
sure_log doubtful run k log at once before = next_log doubtful run k log at (λ sure i j m x y here there. one.one log.proc i j m x y (moved i m x here) (moved j m y there)) before
  where
    part : slice_range run k (k + 1) ≡ log ∷ []
    part = one_of run k log at

    one : DeliveriesAreOnce (log ∷ [])
    one = rw part at once

    is : log_of (log ∷ []) log.proc ≡ log.entries
    is = (let test : (log.proc == log.proc) ≡ true = search rules in rw test refl)

    moved : (i : ℕ) (m : MsgId) (x : ConfId) → slice_get log.entries i ≡ Some (Deliver m x) → slice_get (log_of (log ∷ []) log.proc) i ≡ Some (Deliver m x)
    moved i m x here = subst (λ (es : List Entry). slice_get es i ≡ Some (Deliver m x)) (sym is) here

-- a log that may not be
pub doubtful_log : (doubtful : List ℕ) (run : List Log) (k : ℕ) (log : Log) (new : List ℕ) → slice_get run k ≡ Some log → new ≡ doubtful ++ log.proc ∷ [] → OnceBefore doubtful run k → OnceBefore new run (k + 1)
doubtful_log doubtful run k log new at is before =
    next_log new run k log at (λ sure. absurd (sure (rw is (Contains-append_right doubtful (log.proc ∷ []) log.proc (0, omega arith, refl)))))
    (record { each = λ j lt l at_j sure. before.each j lt l at_j (λ has. sure (rw is (Contains-append_left doubtful (log.proc ∷ []) l.proc has))) })

pub once_but : (doubtful : List ℕ) (run : List Log) (k : ℕ) → length run ≤ k → OnceBefore doubtful run k → DeliverOnceBut doubtful run
once_but doubtful run k end before = record {
  each = λ p sure. elim (log_of_cases run p) [
    | inl none ↦ λ i j m x y here there. absurd (let h : slice_get {X = Entry} [] i ≡ Some (Deliver m x) = rw none at here in cc)
    | inr (j, log, at, same, is) ↦ rw is (before.each j (omega (arith, slice_get_within run j log at)) log at (λ has. sure (rw same at has)))
  ];
}

module _ (by_message : MsgId → MsgId → Ordering) (by_delivery : Delivery → Delivery → Ordering) (repeat : Bool) (doubtful : List ℕ) where
  pub keeps_sends : IsTotalOrder by_message → (s t : BTreeMap MsgId (Option Place)) (d : BTreeMap Delivery (Option Place)) (m : MsgId) (e : Place) → IsMet by_message s t m e
      → Keeps (KnowsAct by_message by_delivery s repeat d doubtful) (KnowsAct by_message by_delivery t repeat d doubtful)
  keeps_sends total s t d m e met = record {
    each = λ p log i h. record { sent = λ may n x at. meets_keeps by_message total s t m e met n (place p i) (h.sent may n x at); delivered = h.delivered };
  }

  pub keeps_deliveries : IsTotalOrder by_delivery → (s : BTreeMap MsgId (Option Place)) (d f : BTreeMap Delivery (Option Place)) (k : Delivery) (e : Place) → IsMet by_delivery d f k e
      → Keeps (KnowsAct by_message by_delivery s repeat d doubtful) (KnowsAct by_message by_delivery s repeat f doubtful)
  keeps_deliveries total s d f k e met = record {
    each = λ p log i h. record { sent = h.sent; delivered = λ entered n x at. meets_keeps by_delivery total d f k e met (record { proc = p; message = n }) (place p i) (h.delivered entered n x at) };
  }

  pub enters_delivery : IsTotalOrder by_delivery → (s : BTreeMap MsgId (Option Place)) (d f : BTreeMap Delivery (Option Place)) (p : ℕ) (log : List Entry) (i : ℕ) (m : MsgId) (x : ConfId) → slice_get log i ≡ Some (Deliver m x)
      → IsMet by_delivery d f (record { proc = p; message = m }) (place p i) → KnowsAct by_message by_delivery s repeat f doubtful p log i
  enters_delivery total s d f p log i m x at met = record {
    sent = λ may n y (v, at'). absurd cc;
    delivered = λ entered n y at'. (let same : m ≡ n = (let one : Deliver m x ≡ Deliver n y = cc in cc) in
        subst (λ (z : MsgId). Knows by_delivery f (record { proc = p; message = z }) (place p i)) same (meets_knows by_delivery total d f (record { proc = p; message = m }) (place p i) met));
  }

  pub enters_nothing : (s : BTreeMap MsgId (Option Place)) (d : BTreeMap Delivery (Option Place)) (p : ℕ) (log : List Entry) (i : ℕ) (e : Entry) → slice_get log i ≡ Some e
      → ((m : MsgId) (x : ConfId) (v : Service) → e ≡ Send m x v → ⊥) → ((m : MsgId) (x : ConfId) → e ≡ Deliver m x → ⊥) → KnowsAct by_message by_delivery s repeat d doubtful p log i
  enters_nothing s d p log i e at no_send no_delivery = record {
    sent = λ may n y (v, at'). absurd (no_send n y v cc);
    delivered = λ entered n y at'. absurd (no_delivery n y cc);
  }

  -- a delivery that is left out
  pub leaves_out : (s : BTreeMap MsgId (Option Place)) (d : BTreeMap Delivery (Option Place)) (p : ℕ) (log : List Entry) (i : ℕ) (m : MsgId) (x : ConfId) → slice_get log i ≡ Some (Deliver m x)
      → (Contains doubtful p → ⊥) → KnowsAct by_message by_delivery s repeat d doubtful p log i
  leaves_out s d p log i m x at left_out = record { sent = λ may n y (v, at'). absurd cc; delivered = λ entered n y at'. absurd (left_out entered) }

  -- a send that is left out
  pub leaves_out_send : (s : BTreeMap MsgId (Option Place)) (d : BTreeMap Delivery (Option Place)) (p : ℕ) (log : List Entry) (i : ℕ) (m : MsgId) (x : ConfId) (v : Service) → slice_get log i ≡ Some (Send m x v)
      → (IsTrue repeat → ⊥) → KnowsAct by_message by_delivery s repeat d doubtful p log i
  leaves_out_send s d p log i m x v at left_out = record { sent = λ may. absurd (left_out may); delivered = λ entered n y at'. absurd cc }

  -- a message that was sent at one place only was not sent twice
  pub only_send : (run : List Log) (s : BTreeMap MsgId (Option Place)) (d : BTreeMap Delivery (Option Place)) (p i : ℕ) (m : MsgId) (x : ConfId) (v : Service) → IsTrue repeat → KnowsRun (KnowsAct by_message by_delivery s repeat d doubtful) run
      → tree.get by_message s m ≡ Some (Some (place p i)) → HoldsOfNone (IsOneEvent (Has run (AreTwice p i (Send m x v))))
  only_send run s d p i m x v may known once = record { none = λ places h. go places h }
    where
      apart : (q j : ℕ) → place q j ≡ place p i → (p ≢ q) ⊎ (i ≢ j) → ⊥
      apart q j same (inl other) = other (sym (ap (λ (e : Place). e.proc) same))
      apart q j same (inr other) = other (let ats : j + 1 ≡ i + 1 = ap (λ (e : Place). e.at) same in omega arith)

      go : (places : List Place) → IsOneEvent (Has run (AreTwice p i (Send m x v))) places → ⊥
      go (f ∷ []) (j, js, (Send n y t, at, (same, other))) =
          let met = ((known.each f.proc j (slice_get_within (log_of run f.proc) j (Send n y t) at)).sent may n y (t, at)).only (place p i) (rw same at once) in
          apart f.proc j (sym met) other
      go (f ∷ []) (j, js, (act, at, h)) = h
      go places h = h

  -- a message that a process delivered at one place only was not delivered twice
  pub only_delivery : (run : List Log) (s : BTreeMap MsgId (Option Place)) (d : BTreeMap Delivery (Option Place)) (p i : ℕ) (m : MsgId) (x : ConfId) → Contains doubtful p → KnowsRun (KnowsAct by_message by_delivery s repeat d doubtful) run
      → tree.get by_delivery d (record { proc = p; message = m }) ≡ Some (Some (place p i)) → HoldsOfNone (IsOneEvent (Has run (AreTwice p i (Deliver m x))))
  only_delivery run s d p i m x entered known once = record { none = λ places h. go places h }
    where
      go : (places : List Place) → IsOneEvent (Has run (AreTwice p i (Deliver m x))) places → ⊥
      go (f ∷ []) (j, js, (Deliver n y, at, (same, procs, other))) =
          let key : delivery p m ≡ delivery f.proc n = rw (procs, same) refl in
          let met = ((known.each f.proc j (slice_get_within (log_of run f.proc) j (Deliver n y) at)).delivered (rw procs at entered) n y at).only (place p i)
          (subst (λ (k : Delivery). tree.get by_delivery d k ≡ Some (Some (place p i))) key once) in
          other (let ats : i + 1 ≡ j + 1 = ap (λ (e : Place). e.at) met in omega arith)
      go (f ∷ []) (j, js, (act, at, h)) = h
      go places h = h
