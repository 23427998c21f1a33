-- 1.3: what breaks it, and where nothing does.
use Rattle.totem_judge_run.proofs.Common.{arith, ◌≡◌, ℕ, inl, inr, List, slice_get, Some, Bool, IsTrue, ◌↔◌, refl, slice_get_within, ConfId, Regular, MsgId, Entry, Send, Deliver, Log, log_of}
use Rattle.totem_evs.specs.Delivery.{DeliversWhatWasSent}
use Rattle.totem_evs.specs.DeliveryFaults.{IsUnsent}
use Rattle.totem_judge_run.specs.Sent.{WasSentTo, IsSendTo}
use Rattle.totem_judge_run.proofs.SentOrNot.{sent_or_not}
use Rattle.totem_search.specs.Search.{HoldsOfNone, IsOneEvent, AreEvents}
use Rattle.totem_search.specs.Entries.{SomeLog}
use Rattle.totem_search.specs.Unsent.{IsUnsentDelivery}
use Rattle.totem_search.proofs.Searching.{nowhere, told_at}

sent_of : (run : List Log) (log : List Entry) (m : MsgId) (d : ConfId) (q i : ℕ) (x : Entry) → slice_get (log_of run q) i ≡ Some x → IsSendTo log m d 0 0 x → WasSentTo run log m d
sent_of run log m d q i x at h = grind arith

pub sent_to : (run : List Log) (log : List Entry) (m : MsgId) (d : ConfId) (b : Bool) → IsTrue b ↔ SomeLog (IsSendTo log m d 0 0) run → IsTrue b ↔ WasSentTo run log m d
sent_to run log m d b tells = (λ t. let (q, (i, x, at, h)) = tells.0 t in sent_of run log m d q i x at h, λ (c, (q, i, (s, at)), inside). tells.1 (q, (i, Send m (Regular c) s, at, (refl, inside))))

pub unsent_told : (run : List Log) (p i : ℕ) (x : Entry) (b : Bool) → slice_get (log_of run p) i ≡ Some x → IsTrue b ↔ IsUnsentDelivery run (log_of run p) x → IsTrue b ↔ IsUnsent run p i
unsent_told run p i x b at = grind (arith, told_at)

pub unsent_events : (run : List Log) → AreEvents run (IsUnsent run)
unsent_events run = record { each = λ p i (m, d, at, h). slice_get_within (log_of run p) i (Deliver m d) at }

pub all_sent : (run : List Log) → HoldsOfNone (IsOneEvent (IsUnsent run)) → DeliversWhatWasSent run
all_sent run none p i m d at = elim (sent_or_not run (log_of run p) m d) [ inl sent ↦ sent | inr unsent ↦ absurd (nowhere (IsUnsent run) none p i (m, d, at, unsent)) ]
