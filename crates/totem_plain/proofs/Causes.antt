-- 5: a cause, an effect of it, and a delivery of the effect without the cause before it.
use Rattle.totem_plain.proofs.Common.{◌≡◌, ℕ, ◌<◌, List, [], ◌∷◌, true, false, Bool, not, IsTrue, ◌↔◌, refl, arith, RingId, ConfId, Regular, MsgId, Place, Send, Log, log_of, SendsAt, DeliversIn, IsHop, IsNotDeliveredFirst, BreaksCausalityIn, place, EachBegins, DeliversInConf, DeliversBefore}
use Rattle.totem_search.specs.Causes.{IsEffect}
use Rattle.std.proofs.Common.{ap}
use Rattle.totem_search.proofs.Causing.{index_of}
use Rattle.totem_plain.proofs.Beginning.{IsAt, begins}

sends_at : (run : List Log) (e : Place) (m : MsgId) (x : ConfId) → SendsAt run e m x → IsAt run e
sends_at run e m x (s, at) = let there = index_of run e (Send m x s) at in record { index = there.0; entry = Send m x s; is = ap (λ (f : Place). f.at) there.1; at = there.2 }

-- ---- the delivery

pub late_told : (run : List Log) (c : RingId) (m n : MsgId) (r j : ℕ) (b : Bool) → DeliversIn (log_of run r) c n j → IsTrue b ↔ DeliversBefore (log_of run r) c m j → IsTrue (not b) ↔ IsNotDeliveredFirst run c m n r j
late_told run c m n r j true here tells = (λ t. absurd cc, λ h. absurd (let (i, lt, at) = tells.0 refl in h.1 i lt at))
late_told run c m n r j false here tells = (λ t. (here, λ i lt at. (let t = tells.1 (i, lt, at) in cc)), λ h. refl)

-- ---- the effect

pub hop_told : (run : List Log) (c : RingId) (m : MsgId) (p i q j : ℕ) (b : Bool) → ((q ≡ p) × (i < j) → ⊥) → IsTrue b ↔ DeliversInConf (log_of run q) j m (Regular c) → IsTrue b ↔ IsHop run c m (place p i) (place q j)
hop_told run c m p i q j b apart tells = grind arith

pub effects_begin : (run : List Log) (c : RingId) (m : MsgId) (e : Place) → EachBegins run (IsEffect run c m e)
effects_begin run c m e = begins run (IsEffect run c m e) (λ h. h) (λ f rest (n, send, hop, one). sends_at run f n (Regular c) send)

-- ---- the cause

sent_first : (run : List Log) (c : RingId) (e : Place) (rest : List Place) → BreaksCausalityIn run c (e ∷ rest) → IsAt run e
sent_first run c e (f ∷ g ∷ []) (k, is, (m, n, send, effect, hop, late)) = sends_at run e m (Regular c) send
sent_first run c e rest h = absurd h

pub causes_begin : (run : List Log) (c : RingId) → EachBegins run (BreaksCausalityIn run c)
causes_begin run c = begins run (BreaksCausalityIn run c) (λ h. h) (sent_first run c)
