-- Causal delivery, from pairs in one log (docs/SPECIFICATIONS.md, "5 Causal delivery").
use Rattle.std.specs.Prelude.{◌⊎◌, ℕ, ◌<◌, List}
use Rattle.totem_names.specs.declared.ring.RingId.{RingId}
use Rattle.totem_names.specs.declared.conf.ConfId.TheVariants.{Regular}
use Rattle.totem_names.specs.declared.message.MsgId.{MsgId}
use Rattle.totem_evs.specs.declared.log.Log.{Log}
use Rattle.totem_evs.specs.Events.{Sends, Delivers, log_of}
use Rattle.totem_evs.specs.Following.{DeliversIn}
use Rattle.totem_evs.specs.Delivery.{DeliversWhatWasSent, DeliversOnce}
use Rattle.totem_evs.specs.Changes.{StaysInPlace}
use Rattle.totem_evs.specs.Certificates.{Numbering, Certified}
use Rattle.totem_evs.specs.Agreement.{CausalDelivery}

-- each process that delivers n in c or what follows it delivers m there before
abbrev pub IsDeliveredBefore : List Log → RingId → MsgId → MsgId → Type 0
IsDeliveredBefore run c m n = (r k : ℕ) → DeliversIn (log_of run r) c n k → (l : ℕ) × (l < k) × DeliversIn (log_of run r) c m l

-- what a process sent or delivered in c before it sent a message there is delivered before that message
abbrev pub OneHopIsFine : List Log → Type 0
OneHopIsFine run = (c : RingId) (p i j : ℕ) (m n : MsgId) → Sends (log_of run p) j n (Regular c) → i < j
    → Sends (log_of run p) i m (Regular c) ⊎ Delivers (log_of run p) i m (Regular c) → IsDeliveredBefore run c m n

-- if it holds for pairs in one log, it holds for chains of any length
abbrev pub ChainsAreFine : Type 0
ChainsAreFine = (run : List Log) (lines : List Numbering) → Certified run lines → ((p : ℕ) → StaysInPlace (log_of run p))
    → DeliversWhatWasSent run → DeliversOnce run → OneHopIsFine run → CausalDelivery run
