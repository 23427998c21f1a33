-- The first log with a ready head has the next class.
use Rattle.totem_cert.proofs.Common.{◌≡◌, ℕ, ◌<◌, ◌≤◌, ◌⊎◌, List, length, slice_get, Some, arith, slice_get_within, Place, Entry, Log, IsAtMost, Numbering, Rising, less_or_not, log_of_at, IsEntryAt, HoldsTo, place, given_at, IsReady, IsSound, Fits, IsNextHead, NoneReady}
use Rattle.totem_cert.proofs.Classmates.{class_self}
use Rattle.totem_cert.proofs.LineFacts.{given_of, event_at, at_most, unnumbered_past}
use Rattle.totem_cert.proofs.LogHeads.{ready_free, ready_same}

-- no head of a log before the k-th is ready
abbrev pub NoneReadyBefore : List Log → List Numbering → ℕ → Type 0
NoneReadyBefore run lines k = HoldsTo (λ (j : ℕ) (log : Log). IsReady run lines (place log.proc (given_at lines j)) → ⊥) run k

-- a ready event is the head of a log
pub ready_at : (run : List Log) (lines : List Numbering) (e : Place) → Rising run → Fits run lines → IsReady run lines e → (k : ℕ) × (x : Entry) × (a : IsEntryAt run k (given_at lines k) x) × (e ≡ place a.log.proc (given_at lines k))
ready_at run lines e rising fits ready =
    let (k, i, a, is) = event_at run e ready.event.0 ready.event.1 in
    let here : IsReady run lines (place a.log.proc i) = rw is at ready in
    let le = (ready_free run lines rising fits k i ready.event.0 a here).mates k i ready.event.0 a (class_self run (place a.log.proc i) here.event) in
    let ge = unnumbered_past lines a.log.proc i here.unnumbered in
    let given = given_of run lines k a.log rising fits a.is_log in
    let same : i ≡ given_at lines k = omega arith in
    (k, ready.event.0, record { log = a.log; is_log = a.is_log; is_entry = rw same at a.is_entry }, rw same at is)

pub first_is_next : (run : List Log) (lines : List Numbering) (k : ℕ) (log : Log) → Rising run → IsSound run lines → slice_get run k ≡ Some log → IsReady run lines (place log.proc (given_at lines k)) → NoneReadyBefore run lines k → IsNextHead run lines k
first_is_next run lines k log rising sound log_at ready none = record {
  log = log;
  log_at = log_at;
  next = record {
    ready = ready;
    least = λ f ready_f. record {
      least = place log.proc (given_at lines k);
      shares = class_self run (place log.proc (given_at lines k)) ready.event;
      below = λ g shares. first g (ready_same run lines sound.number f g sound.sound shares ready_f);
    };
  };
}
  where
    first : (g : Place) → IsReady run lines g → IsAtMost (place log.proc (given_at lines k)) g
    first g ready_g =
        let (m, y, b, is) = ready_at run lines g rising sound.fits ready_g in
        let least : IsAtMost (place log.proc (given_at lines k)) (place b.log.proc (given_at lines m)) = at_most run k (given_at lines k) m (given_at lines m) ready.event.0 y rising
        (record { log = log; is_log = log_at; is_entry = rw (log_of_at run k log rising log_at) at ready.event.1 }) b (order m (λ lt. none.each m b.log lt b.is_log (rw is at ready_g))) in
        rw is least
      where
        order : (m : ℕ) → (m < k → ⊥) → (k < m) ⊎ ((k ≡ m) × (given_at lines k ≤ given_at lines m))
        order m never = grind (arith, less_or_not)

pub none_ready_end : (run : List Log) (lines : List Numbering) (k : ℕ) → Rising run → Fits run lines → length run ≤ k → NoneReadyBefore run lines k → NoneReady run lines
none_ready_end run lines k rising fits end before = grind (arith, ready_at, slice_get_within)
