-- Which classes are ready: those that nothing keeps back.
use Rattle.totem_cert.proofs.Common.{◌≡◌, ℕ, zero, suc, ◌<◌, ◌≤◌, ◌⊎◌, inl, inr, List, Option, Some, None, refl, ◌∙◌, ap, arith, common_steps, ConfId, MsgId, Place, Entry, Send, Deliver, Log, entry_at, Strict, SameClass, SendsAt, DeliversAt, Numbering, number_at, IsEntryAt, place, given_at, Rising, InClass, WaitsFor, AreOfOneClass, AreSendAndDelivery, Fits, IsFree, IsNumbered, Sound, IsReady}
use Rattle.totem_cert.proofs.Classmates.{class_sym, event_of, waits_same}
use Rattle.totem_cert.proofs.Lists.{previous}
use Rattle.totem_cert.proofs.LineFacts.{same_parts, index_of, event_at, entry_event, given_of, numbered_within, within_numbered, past_unnumbered}

-- places whose entries are of one class are in the same class
pub alike_class : (x y : Entry) (run : List Log) (e f : Place) → AreOfOneClass x y → entry_at run e ≡ Some x → entry_at run f ≡ Some y → SameClass run e f
alike_class x y run e f h at_e at_f = grind (arith, common_steps)

pub class_alike : (run : List Log) (e f : Place) (x y : Entry) → SameClass run e f → entry_at run e ≡ Some x → entry_at run f ≡ Some y → AreOfOneClass x y
class_alike run e f x y h at_e at_f = grind (arith, common_steps)

-- a send of the message that an event delivers
pub feeds_send : (y x : Entry) (run : List Log) (g e : Place) → AreSendAndDelivery y x → entry_at run g ≡ Some y → entry_at run e ≡ Some x → (m : MsgId) × (c : ConfId) × SendsAt run g m c × DeliversAt run e m
feeds_send y x run g e h at_g at_e = grind (arith, common_steps)

pub send_feeds : (y x : Entry) (run : List Log) (g e : Place) (m : MsgId) (c : ConfId) → SendsAt run g m c → DeliversAt run e m → entry_at run g ≡ Some y → entry_at run e ≡ Some x → AreSendAndDelivery y x
send_feeds y x run g e m c (s, a) (d, b) at_g at_e = let y_is : y ≡ Send m c s = cc in let x_is : x ≡ Deliver m d = cc in rw (y_is, x_is) refl

-- all events of the class of a delivery deliver its message
pub class_delivers : (run : List Log) (e f : Place) (m : MsgId) → InClass run e f → DeliversAt run f m → DeliversAt run e m
class_delivers run e f m shares d = grind (arith, common_steps)

module _ (run : List Log) (lines : List Numbering) (rising : Rising run) (fits : Fits run lines) (k i : ℕ) (x : Entry) (a : IsEntryAt run k i x) where
  -- a class that nothing keeps back is ready
  pub free_ready : given_at lines k ≤ i → IsFree run lines (place a.log.proc i) x → IsReady run lines (place a.log.proc i)
  free_ready past free = record {
    event = (x, entry_event run k i x rising a);
    unnumbered = past_unnumbered lines a.log.proc i (let given = given_of run lines k a.log rising fits a.is_log in omega arith);
    waits = λ g waits. go g waits.member waits.shares waits.step;
  }
    where
      go : (g f : Place) → InClass run (place a.log.proc i) f → Strict run g f → IsNumbered lines g
      go g f shares (inl ((z, at_g), (y, at_f), (same, before))) =
          let h = index_of run g z at_g in
          let (l, j, b, is) = event_at run f y at_f in
          let le = free.mates l j y b (rw is at shares) in
          let given = given_of run lines l b.log rising fits b.is_log in
          let at_h : g.at ≡ suc h.0 = ap (λ (e : Place). e.at) h.1 in
          let at_j : f.at ≡ suc j = ap (λ (e : Place). e.at) is in
          rw (same_parts g b.log.proc (suc h.0) (same ∙ ap (λ (e : Place). e.proc) is) at_h) (within_numbered lines b.log.proc h.0 (omega arith))
      go g f shares (inr (m, c, (s, sends), delivers)) =
          let (l, j, b, is) = event_at run g (Send m c s) sends in
          let here = class_delivers run (place a.log.proc i) f m shares delivers in
          let lt = free.sends l j (Send m c s) b (send_feeds (Send m c s) x run g (place a.log.proc i) m c (s, sends) here sends (entry_event run k i x rising a)) in
          let given = given_of run lines l b.log rising fits b.is_log in
          rw is (within_numbered lines b.log.proc j (omega arith))

  -- nothing keeps a ready class back
  pub ready_free : IsReady run lines (place a.log.proc i) → IsFree run lines (place a.log.proc i) x
  ready_free ready = record {
    mates = mates;
    sends = λ l j y b feeds.
        let s = feeds_send y x run (place b.log.proc j) (place a.log.proc i) feeds (entry_event run l j y rising b) (entry_event run k i x rising a) in
        let waits : WaitsFor run (place a.log.proc i) (place b.log.proc j) = record { member = place a.log.proc i; shares = inl (ready.event, refl); step = inr (s.0, s.1, s.2, s.3) } in
        numbered l j y b waits;
  }
    where
      numbered : (l j : ℕ) (y : Entry) (b : IsEntryAt run l j y) → WaitsFor run (place a.log.proc i) (place b.log.proc j) → j < given_at lines l
      numbered l j y b waits =
          let given = given_of run lines l b.log rising fits b.is_log in
          let lt = numbered_within lines b.log.proc j (ready.waits (place b.log.proc j) waits) in omega arith

      mates : (l j : ℕ) (y : Entry) (b : IsEntryAt run l j y) → InClass run (place a.log.proc i) (place b.log.proc j) → j ≤ given_at lines l
      mates l zero y b shares = omega arith
      mates l (suc j) y b shares =
          let z = previous b.log.entries j y b.is_entry in
          let before : IsEntryAt run l j z.0 = record { log = b.log; is_log = b.is_log; is_entry = z.1 } in
          let waits : WaitsFor run (place a.log.proc i) (place b.log.proc j) = record {
            member = place b.log.proc (suc j);
            shares = shares;
            step = inl ((z.0, entry_event run l j z.0 rising before), (y, entry_event run l (suc j) y rising b), (refl, omega arith));
          } in
          let lt = numbered l j z.0 before waits in omega arith

pub option_cases : (o : Option ℕ) → (o ≡ None) ⊎ ((k : ℕ) × (o ≡ Some k))
option_cases None = inl refl
option_cases (Some k) = inr (k, refl)

pub none_unless : (o : Option ℕ) → ((k : ℕ) → o ≡ Some k → ⊥) → o ≡ None
none_unless o never = grind arith

-- the whole class of a ready event is ready
pub ready_same : (run : List Log) (lines : List Numbering) (n : ℕ) (e f : Place) → Sound run lines n → InClass run e f → IsReady run lines e → IsReady run lines f
ready_same run lines n e f sound shares ready = record {
  event = event_of run e f shares;
  unnumbered = none_unless (number_at lines f) (λ k is. (let there = sound.shared f e k is (class_sym run e f shares) in let none = ready.unnumbered in cc));
  waits = λ g waits. ready.waits g (waits_same run e f g shares waits);
}
