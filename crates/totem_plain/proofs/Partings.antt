-- 4: a delivery, the change to the next configuration after it, and such a change by a process that does not deliver the message.
use Rattle.std.proofs.Common.{arith}
use Rattle.totem_plain.proofs.Common.{◌≡◌, ℕ, List, [], ◌∷◌, length, slice_get, Some, Bool, true, false, not, IsTrue, ◌↔◌, refl, slice_get_within, RingId, ConfId, MsgId, Place, Conf, Deliver, Log, log_of, Delivers, Com, GoesAt, BreaksAtomicityIn, place, NoneFrom, EachBegins, DeliversInConf, IsParting, IsGoing, Starts}
use Rattle.totem_plain.proofs.Beginning.{index_is, IsAt, begins}

-- ---- the change

pub parting_told : (run : List Log) (m : MsgId) (x d : ConfId) (q k : ℕ) (b : Bool) → GoesAt (log_of run q) x d k → IsTrue b ↔ DeliversInConf (log_of run q) (length (log_of run q)) m x → IsTrue (not b) ↔ IsParting run m x d q k
parting_told run m x d q k true goes tells = (λ t. absurd cc, λ h. absurd (let (l, lt, at) = tells.0 refl in h.1 l at))
parting_told run m x d q k false goes tells = (λ t. (goes, λ l at. (let t = tells.1 (l, slice_get_within (log_of run q) l (Deliver m x) at, at) in cc)), λ h. refl)

pub goings_begin : (run : List Log) (p : ℕ) (m : MsgId) (x : ConfId) → EachBegins run (IsGoing run p m x)
goings_begin run p m x = begins run (IsGoing run p m x) (λ h. h) (λ f rest (j, is, (same, (d, (i, from, next, (ms, at)), one))). record { index = j; entry = Conf d ms; is = is; at = at })

-- ---- the delivery

parted : (run : List Log) (c : RingId) (m : MsgId) (x : ConfId) (p i : ℕ) (rest : List Place) → slice_get (log_of run p) i ≡ Some (Deliver m x) → Com (log_of run p) c x → IsGoing run p m x rest → BreaksAtomicityIn run c (place p i ∷ rest)
parted run c m x p i rest h k o = grind arith

delivery_at : (run : List Log) (c : RingId) (m : MsgId) (x : ConfId) (p i : ℕ) (rest : List Place) → slice_get (log_of run p) i ≡ Some (Deliver m x) → BreaksAtomicityIn run c (place p i ∷ rest) → Com (log_of run p) c x × IsGoing run p m x rest
delivery_at run c m x p i (f ∷ g ∷ []) at (l, ls, (j, is, (k, ks, (same, (y, inside, (n, d, delivers, goes, also, never)))))) =
    let there : Delivers (log_of run p) i n y = rw (index_is i l ls) at delivers in
    let message : n ≡ m = cc in
    let conf : y ≡ x = cc in
    (rw conf at inside, (j, is, (same, (d, rw (conf, same) at goes, (k, ks, (rw conf at also, rw (message, conf) at never))))))
delivery_at run c m x p i rest at h = absurd h

pub delivery_starts : (run : List Log) (c : RingId) (m : MsgId) (x : ConfId) (p i : ℕ) → slice_get (log_of run p) i ≡ Some (Deliver m x) → Com (log_of run p) c x → Starts (IsGoing run p m x) (BreaksAtomicityIn run c) p i
delivery_starts run c m x p i at inside = record { to = λ rest h. parted run c m x p i rest at inside h; from = λ rest h. (delivery_at run c m x p i rest at h).1 }

pub no_delivery : (run : List Log) (c : RingId) (m : MsgId) (x : ConfId) (p i : ℕ) → slice_get (log_of run p) i ≡ Some (Deliver m x) → (Com (log_of run p) c x → ⊥) → NoneFrom (BreaksAtomicityIn run c) p i
no_delivery run c m x p i at never = record { none = λ rest h. never (delivery_at run c m x p i rest at h).0 }

delivers_first : (run : List Log) (c : RingId) (e : Place) (rest : List Place) → BreaksAtomicityIn run c (e ∷ rest) → IsAt run e
delivers_first run c e (f ∷ g ∷ []) (i, is, (j, js, (k, ks, (same, (x, inside, (m, d, at, goes, also, never)))))) = record { index = i; entry = Deliver m x; is = is; at = at }
delivers_first run c e rest h = absurd h

pub deliveries_begin : (run : List Log) (c : RingId) → EachBegins run (BreaksAtomicityIn run c)
deliveries_begin run c = begins run (BreaksAtomicityIn run c) (λ h. h) (delivers_first run c)
