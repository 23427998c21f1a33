-- 5: what breaks it is the send of a cause, and then of an effect.
use Rattle.totem_judge_run.proofs.Common.{arith, ◌≡◌, ℕ, ◌+◌, List, [], ◌∷◌, slice_get, Some, refl, RingId, ConfId, Regular, MsgId, Place, Entry, Send, Log, log_of}
use Rattle.std.proofs.Common.{add-one}
use Rattle.totem_names.specs.declared.message.Service.{Service}
use Rattle.totem_evs.proofs.Common.{at_place, entry_at, Sends, SendsAt, BreaksCausalityIn}
use Rattle.totem_search.specs.Search.{place}
use Rattle.totem_search.specs.Causes.{IsEffect}
use Rattle.totem_search.proofs.Searching.{Starts}

-- ---- entries at places

at_next : (log : List Entry) (i : ℕ) → at_place log (i + 1) ≡ slice_get log i
at_next log i = rw add-one refl

pub sends_there : (run : List Log) (p i : ℕ) (m : MsgId) (x : ConfId) → SendsAt run (place p i) m x → Sends (log_of run p) i m x
sends_there run p i m x (s, at) = (s, rw at_next at at)

pub there_sends : (run : List Log) (p i : ℕ) (m : MsgId) (x : ConfId) → Sends (log_of run p) i m x → SendsAt run (place p i) m x
there_sends run p i m x (s, at) = (s, rw at_next at)

-- an event is at some index of its log
pub index_of : (run : List Log) (e : Place) (x : Entry) → entry_at run e ≡ Some x → (i : ℕ) × (e ≡ place e.proc i) × (slice_get (log_of run e.proc) i ≡ Some x)
index_of run e x at = grind (arith, add-one)

-- ---- the cause

cause_at : (run : List Log) (c : RingId) (m : MsgId) (x : ConfId) (s : Service) (p i : ℕ) (rest : List Place) → slice_get (log_of run p) i ≡ Some (Send m x s) → BreaksCausalityIn run c (place p i ∷ rest) → IsEffect run c m (place p i) rest
cause_at run c m x s p i (f ∷ g ∷ []) at (k, is, (o, n, send, effect, hop, late)) =
    let sends = sends_there run p i o (Regular c) send in
    let there : slice_get (log_of run p) i ≡ Some (Send o (Regular c) sends.0) = sends.1 in
    let same : o ≡ m = cc in
    (n, effect, rw same at hop, (k, is, rw same at late))
cause_at run c m x s p i rest at h = absurd h

caused : (run : List Log) (c : RingId) (m : MsgId) (s : Service) (p i : ℕ) (rest : List Place) → slice_get (log_of run p) i ≡ Some (Send m (Regular c) s) → IsEffect run c m (place p i) rest → BreaksCausalityIn run c (place p i ∷ rest)
caused run c m s p i rest at h = grind (arith, there_sends)

pub cause_starts : (run : List Log) (c : RingId) (m : MsgId) (x : ConfId) (s : Service) (p i : ℕ) → slice_get (log_of run p) i ≡ Some (Send m x s) → x ≡ Regular c → Starts (IsEffect run c m (place p i)) (BreaksCausalityIn run c) p i
cause_starts run c m x s p i at is = record { to = λ rest h. caused run c m s p i rest (rw is at at) h; from = λ rest h. cause_at run c m x s p i rest at h }
