-- Specification 1 (docs/SPECIFICATIONS.md, "1 Basic delivery").
use Rattle.std.specs.Prelude.{◌≡◌, ℕ, List}
use Rattle.totem_names.specs.declared.ring.RingId.{RingId}
use Rattle.totem_names.specs.declared.conf.ConfId.{ConfId}
use Rattle.totem_names.specs.declared.conf.ConfId.TheVariants.{Regular}
use Rattle.totem_names.specs.declared.message.MsgId.{MsgId}
use Rattle.totem_names.specs.declared.place.Place.{Place}
use Rattle.totem_evs.specs.declared.log.Log.{Log}
use Rattle.totem_evs.specs.Events.{IsEvent, IsBefore, IsRegular, Sends, Delivers, WasSentIn, log_of}
use Rattle.totem_evs.specs.Steps.{Precedes}
use Rattle.totem_evs.specs.Following.{Com}

-- 1.1: no event precedes itself
abbrev pub NoCycle : List Log → Type 0
NoCycle run = (e : Place) → Precedes run e e → ⊥

-- 1.2: the events of one log are ordered
abbrev pub LogsAreOrdered : List Log → Type 0
LogsAreOrdered run = (e f : Place) → IsEvent run e → IsEvent run f → IsBefore e f → Precedes run e f

-- 1.3: a message that p delivers in d was sent in d, or in the regular configuration that d follows
abbrev pub WasSentFor : List Log → ℕ → MsgId → ConfId → Type 0
WasSentFor run p m d = (c : RingId) × WasSentIn run m (Regular c) × Com (log_of run p) c d

abbrev pub DeliversWhatWasSent : List Log → Type 0
DeliversWhatWasSent run = (p i : ℕ) (m : MsgId) (d : ConfId) → Delivers (log_of run p) i m d → WasSentFor run p m d

-- 1.4: one send, in a regular configuration, and one delivery in each log
pub record DeliversOnce (run : List Log) : Type 0 where
  pub one_send : (p i q j : ℕ) (m : MsgId) (x y : ConfId) → Sends (log_of run p) i m x → Sends (log_of run q) j m y → (p ≡ q) × (i ≡ j)
  pub regular : (p i : ℕ) (m : MsgId) (x : ConfId) → Sends (log_of run p) i m x → IsRegular x
  pub one_delivery : (p i j : ℕ) (m : MsgId) (x y : ConfId) → Delivers (log_of run p) i m x → Delivers (log_of run p) j m y → i ≡ j

pub record BasicDelivery (run : List Log) : Type 0 where
  pub no_cycle : NoCycle run
  pub ordered : LogsAreOrdered run
  pub sent : DeliversWhatWasSent run
  pub once : DeliversOnce run
