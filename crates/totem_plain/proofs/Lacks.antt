-- 6.3: a delivery, a later one of the same process, and a delivery of the later message by a process that lacks the earlier one.
use Rattle.std.proofs.Common.{arith}
use Rattle.totem_plain.proofs.Common.{◌≡◌, ℕ, List, [], ◌∷◌, slice_get, Some, Bool, IsTrue, ◌↔◌, refl, RingId, ConfId, MsgId, Place, Entry, Send, Deliver, Log, log_of, Sends, DeliversIn, HasDelivered, BreaksGapIn, place, EachBegins, HasOne, IsEntrySend, SomeMember, HasSent, IsLack, IsLater, Starts}
use Rattle.totem_plain.proofs.Beginning.{index_is, IsAt, begins}

-- ---- the delivery without the earlier message

pub lack_told : (run : List Log) (c : RingId) (m n o : MsgId) (d : ConfId) (q k : ℕ) (b : Bool) → slice_get (log_of run q) k ≡ Some (Deliver o d) → DeliversIn (log_of run q) c n k → (HasDelivered (log_of run q) c m → ⊥)
    → IsTrue b ↔ SomeMember (HasSent run m) run d → IsTrue b ↔ IsLack run c m n q k
lack_told run c m n o d q k b h p r s = grind arith

-- ---- the later delivery

pub laters_begin : (run : List Log) (c : RingId) (m : MsgId) (p i : ℕ) → EachBegins run (IsLater run c m p i)
laters_begin run c m p i = begins run (IsLater run c m p i) (λ h. h) (λ f rest (j, is, (same, lt, (n, (d, at, inside), one))). record { index = j; entry = Deliver n d; is = is; at = at })

-- ---- the earlier delivery

sent_of : (log : List Entry) (m : MsgId) → HasOne (IsEntrySend m) log → (l : ℕ) × (x : ConfId) × Sends log l m x
sent_of log m (l, Send n x s, at, same) = (l, x, (s, rw same at at))
sent_of log m (l, e, at, h) = absurd h

gap_of : (run : List Log) (c : RingId) (m : MsgId) (p i : ℕ) (rest : List Place) → DeliversIn (log_of run p) c m i → IsLater run c m p i rest → BreaksGapIn run c (place p i ∷ rest)
gap_of run c m p i [] earlier h = absurd h
gap_of run c m p i (f ∷ g ∷ []) earlier (j, js, (same, lt, (n, later, (k, ks, (d, at, inside, (s, member, sent), lacks))))) =
    let (l, x, sends) = sent_of (log_of run s) m sent in
    (i, refl, (j, js, (k, ks, (same, (m, n, d, x, s, l, earlier, rw (← same) at later, lt, at, inside, sends, member, lacks)))))
gap_of run c m p i (f ∷ rest) earlier (j, js, (same, lt, (n, later, h))) = absurd h

gap_at : (run : List Log) (c : RingId) (p i : ℕ) (rest : List Place) → BreaksGapIn run c (place p i ∷ rest) → (m : MsgId) × DeliversIn (log_of run p) c m i × IsLater run c m p i rest
gap_at run c p i (f ∷ g ∷ []) (a, is, (j, js, (k, ks, (same, (m, n, d, x, s, l, earlier, later, lt, at, inside, (service, sends), member, lacks))))) =
    let index = index_is i a is in
    (m, rw index at earlier, (j, js, (same, rw index at lt, (n, rw same at later, (k, ks, (d, at, inside, (s, member, (l, Send m x service, sends, refl)), lacks))))))
gap_at run c p i rest h = absurd h

pub gap_starts : (run : List Log) (c : RingId) (m : MsgId) (p i : ℕ) → DeliversIn (log_of run p) c m i → Starts (IsLater run c m p i) (BreaksGapIn run c) p i
gap_starts run c m p i h = grind (arith, gap_of, gap_at)

delivers_first : (run : List Log) (c : RingId) (e : Place) (rest : List Place) → BreaksGapIn run c (e ∷ rest) → IsAt run e
delivers_first run c e (f ∷ g ∷ []) (i, is, (j, js, (k, ks, (same, (m, n, d, x, s, l, (y, at, also), later, lt, there, inside, send, member, lacks))))) = record { index = i; entry = Deliver m y; is = is; at = at }
delivers_first run c e rest h = absurd h

pub gaps_begin : (run : List Log) (c : RingId) → EachBegins run (BreaksGapIn run c)
gaps_begin run c = begins run (BreaksGapIn run c) (λ h. h) (delivers_first run c)
