-- What makes a run orderly. By a certificate the events of one log that are of one class are one event.
use Rattle.totem_judge_run.proofs.Common.{◌≡◌, ℕ, suc, ◌<◌, inl, inr, List, Result, IfOk, Bool, refl, arith, OnTrue, ConfId, MsgId, Place, Conf, Deliver, Log, IsEvent, ChangesTo, Delivers, log_of, Numbering, IsBelow, number_at, Certified, HasCertificate, SendsAreOnce, AllStayInPlace, ChangesAgree, IsOrderly}
use Rattle.totem_evs.specs.Steps.{SameClass}
use Rattle.totem_judge_run.proofs.Decisions.{neither_below}

abbrev place : ℕ → ℕ → Place
place p i = record { proc = p; at = suc i }

module _ (run : List Log) (lines : List Numbering) (certified : Certified run lines) where
  below_itself : (e f : Place) → number_at lines e ≡ number_at lines f → IsBelow lines e f → ⊥
  below_itself e f same (i, j, at_e, at_f, lt) = (let one : i ≡ j = cc in omega arith)

  not_before : (p i j : ℕ) → IsEvent run (place p i) → IsEvent run (place p j) → SameClass run (place p i) (place p j) → i < j → ⊥
  not_before p i j e f class lt = below_itself (place p i) (place p j) (certified.shared (place p i) (place p j) class) (certified.rises (place p i) (place p j) e f (refl, omega arith))

  pub one_event : (p i j : ℕ) → IsEvent run (place p i) → IsEvent run (place p j) → SameClass run (place p i) (place p j) → SameClass run (place p j) (place p i) → i ≡ j
  one_event p i j e f class back = neither_below i j (not_before p i j e f class) (not_before p j i f e back)

  -- a log delivers a message once
  one_delivery : (p i j : ℕ) (m : MsgId) (x y : ConfId) → Delivers (log_of run p) i m x → Delivers (log_of run p) j m y → i ≡ j
  one_delivery p i j m x y a b = one_event p i j (Deliver m x, a) (Deliver m y, b) (inr (m, (x, a), (y, b))) (inr (m, (y, b), (x, a)))

  -- and changes to a configuration once
  one_change : (p i j : ℕ) (x : ConfId) → ChangesTo (log_of run p) i x → ChangesTo (log_of run p) j x → i ≡ j
  one_change p i j x (ms, a) (ns, b) = one_event p i j (Conf x ms, a) (Conf x ns, b) (inl (x, (ms, a), (ns, b))) (inl (x, (ns, b), (ms, a)))

  orderly_by : SendsAreOnce run → AllStayInPlace run → ChangesAgree run → IsOrderly run
  orderly_by sends placed changes = record {
    once = record { one_send = sends.one; regular = sends.regular; one_delivery = one_delivery };
    placed = placed.each;
    one = record { once = one_change; members = changes.members; own = changes.own };
    turns = changes.turns;
  }

orderly : (run : List Log) → HasCertificate run → SendsAreOnce run → AllStayInPlace run → ChangesAgree run → IsOrderly run
orderly run (lines, certified) = orderly_by run lines certified

-- ---- beside the passes A and B

pub orderly_if : {E : Type 0} (run : List Log) (r : Result Bool E) → HasCertificate run → IfOk r (λ ok. OnTrue ok (SendsAreOnce run)) → AllStayInPlace run → ChangesAgree run → IfOk r (λ ok. OnTrue ok (IsOrderly run))
orderly_if run r h k m o = grind (arith, orderly)
