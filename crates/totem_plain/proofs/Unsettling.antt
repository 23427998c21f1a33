-- What is pending and who waits, from what entries give.
use Rattle.std.proofs.Common.{arith}
use Rattle.totem_plain.proofs.Common.{◌≡◌, ℕ, List, [], ◌∷◌, ◌++◌, slice_get, Some, refl, sym, ◌∙◌, ap, slice_get_within, get_or_from_slice_get, slice_get-get_or, RingId, ConfId, Regular, MsgId, Entry, Conf, Send, Log, log_of, ChangesTo, Sends, HasLog, IsWaiting, ArePending, AreWaiting, AreRings, log_of_cases, Adds, AreListed, Misses, GivesPending, GivesWaiting, GivesRing, ring_of, sent_in}
use Rattle.totem_names.specs.contracts.ring.RingIdOrd.TheImpl as ring
use Rattle.totem_evs.specs.declared.pending.Pending.{Pending}
use Rattle.totem_evs.specs.declared.pending.Waiting.{Waiting}
use Rattle.totem_evs.specs.contracts.pending.PendingOrd.TheImpl as pending
use Rattle.totem_evs.specs.contracts.pending.WaitingOrd.TheImpl as waiting
use Rattle.totem_search.proofs.Adding.{one_added}
use Rattle.totem_plain.proofs.Comparing.{pending_below, waiting_below, same_pending}
use Rattle.totem_judge_run.proofs.PendingOrder.{below_from_less}

-- a process that changes to a configuration has a log
has_log : (run : List Log) (p i : ℕ) (x : ConfId) → ChangesTo (log_of run p) i x → HasLog run p
has_log run p i x h = grind (arith, log_of_cases, slice_get_within, get_or_from_slice_get)

-- ---- rings

change_of : (log : List Entry) (i : ℕ) (c : RingId) (e : Entry) → slice_get log i ≡ Some e → ring_of e ≡ Some c → ChangesTo log i (Regular c)
change_of log i c (Conf (Regular d) ms) at same = (ms, let one : d ≡ c = cc in rw one at at)
change_of log i c e at same = absurd cc

pub are_rings : (run : List Log) (list : List RingId) → AreListed ring.cmp-value.it (λ p e c. GivesRing e c) run list → AreRings run list
are_rings run list h = record {
  rising = λ i j d lt within. below_from_less _ _ (h.rising i j d lt within);
  exact = λ c. (
    λ has. (let (p, there, (q, (i, e, at, given))) = (h.exact c).0 has in record { proc = q; index = i; change = change_of (log_of run q) i c e at given }),
    λ is. (h.exact c).1 (is.proc, has_log run is.proc is.index (Regular c) is.change, (is.proc, (is.index, Conf (Regular c) is.change.0, is.change.1, refl))),
  );
}

-- ---- what is pending

pair_parts : (a b : RingId × MsgId) → Some a ≡ Some b → (a.0 ≡ b.0) × (a.1 ≡ b.1)
pair_parts a b same = let one : a ≡ b = cc in (ap (λ (x : RingId × MsgId). x.0) one, ap (λ (x : RingId × MsgId). x.1) one)

pub one_pending : (run : List Log) (p : ℕ) (e : Entry) (c : RingId) (m : MsgId) (list : List Pending) → Some (c, m) ≡ sent_in e → Misses run p c m → Adds (GivesPending run p e) list (list ++ record { proc = p; msg = m } ∷ [])
one_pending run p e c m list sent misses = one_added (GivesPending run p e) list (record { proc = p; msg = m }) (c, sym sent, refl, misses) (λ x (d, also, procs, other). same_pending _ x (sym procs) (pair_parts (c, m) (d, x.msg) (sent ∙ also)).1)

send_of : (log : List Entry) (i : ℕ) (c : RingId) (m : MsgId) (e : Entry) → slice_get log i ≡ Some e → sent_in e ≡ Some (c, m) → Sends log i m (Regular c)
send_of log i c m e h k = grind (arith, pair_parts)

pub are_pending : (run : List Log) (list : List Pending) → AreListed pending.cmp-value.it (λ p e x. GivesPending run p e x) run list → ArePending run list
are_pending run list h = record {
  rising = λ i j d lt within. pending_below _ _ (h.rising i j d lt within);
  exact = λ q m. (
    λ has. (let (p, there, (r, (i, e, at, (c, sent, same, misses)))) = (h.exact (record { proc = q; msg = m })).0 has in
        record { ring = c; sent = (r, i, send_of (log_of run r) i c m e at sent); still_open = rw (← same) at misses.still_open; missing = rw (← same) at misses.missing }),
    λ is. (let (d, never, last, inside) = is.still_open.1 in let (r, i, (s, at)) = is.sent in
        (h.exact (record { proc = q; msg = m })).1 (q, has_log run q last.index d last.change, (r, (i, Send m (Regular is.ring) s, at, (is.ring, refl, refl, record { still_open = is.still_open; missing = is.missing }))))),
  );
}

-- ---- who waits

waiting_of : (run : List Log) (p r i : ℕ) (e : Entry) (w : Waiting) → slice_get (log_of run r) i ≡ Some e → GivesWaiting run p e w → IsWaiting run w.proc w.conf w.other
waiting_of run p r i (Conf x ms) w at (k, q, at_k, waits) = rw (waits.proc, waits.conf, waits.other) (record {
  stands = waits.stands;
  member = (r, i, ms, at, (k, slice_get_within ms k q at_k, get_or_from_slice_get ms k q q at_k));
  other = waits.elsewhere;
})
waiting_of run p r i e w at h = absurd h

pub are_waiting : (run : List Log) (list : List Waiting) → AreListed waiting.cmp-value.it (λ p e w. GivesWaiting run p e w) run list → AreWaiting run list
are_waiting run list h = record {
  rising = λ i j d lt within. waiting_below _ _ (h.rising i j d lt within);
  exact = λ p x q. (
    λ has. (let (r, there, (s, (i, e, at, given))) = (h.exact (record { proc = p; conf = x; other = q })).0 has in waiting_of run r s i e (record { proc = p; conf = x; other = q }) at given),
    λ is. (let last = is.stands.last in let (r, i, ms, at, (k, lt, is_q)) = is.member in
        (h.exact (record { proc = p; conf = x; other = q })).1 (
          p,
          has_log run p last.index x last.change,
          (
            r,
            (
              i,
              Conf x ms,
              at,
              (
                k,
                q,
                slice_get-get_or ms k q lt ∙ ap (λ (y : ℕ). Some y) is_q,
                record { proc = refl; conf = refl; other = refl; stands = is.stands; elsewhere = is.other },
              ),
            ),
          ),
        )),
  );
}
