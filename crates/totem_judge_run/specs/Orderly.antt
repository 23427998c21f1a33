-- What is required of a run before its configurations are observed (docs/SPECIFICATIONS.md, "1 Basic delivery",
-- "2 Changes of configuration").
use Rattle.std.specs.Prelude.{◌≡◌, ℕ, List, Contains}
use Rattle.totem_names.specs.declared.conf.ConfId.{ConfId}
use Rattle.totem_names.specs.declared.message.MsgId.{MsgId}
use Rattle.totem_evs.specs.declared.log.Log.{Log}
use Rattle.totem_evs.specs.Events.{ChangesWith, Delivers, Sends, IsRegular, log_of}
use Rattle.totem_evs.specs.Delivery.{DeliversOnce}
use Rattle.totem_evs.specs.Changes.{StaysInPlace, IsOneConfiguration}
use Rattle.totem_evs.specs.Answers.{TakeTurns}

-- 1.4: one send of each message, in a regular configuration
pub record SendsAreOnce (run : List Log) : Type 0 where
  pub one : (p i q j : ℕ) (m : MsgId) (x y : ConfId) → Sends (log_of run p) i m x → Sends (log_of run q) j m y → (p ≡ q) × (i ≡ j)
  pub regular : (p i : ℕ) (m : MsgId) (x : ConfId) → Sends (log_of run p) i m x → IsRegular x

-- 1.4: one delivery of each message in each log
pub record DeliveriesAreOnce (run : List Log) : Type 0 where
  pub one : (p i j : ℕ) (m : MsgId) (x y : ConfId) → Delivers (log_of run p) i m x → Delivers (log_of run p) j m y → i ≡ j

-- 2.2
pub record AllStayInPlace (run : List Log) : Type 0 where
  pub each : (p : ℕ) → StaysInPlace (log_of run p)

-- 2.3: one list of members, and a process that changes is one of them; 2.4
pub record ChangesAgree (run : List Log) : Type 0 where
  pub members : (p i q j : ℕ) (x : ConfId) (ms ns : List ℕ) → ChangesWith (log_of run p) i x ms → ChangesWith (log_of run q) j x ns → ms ≡ ns
  pub own : (p i : ℕ) (x : ConfId) (ms : List ℕ) → ChangesWith (log_of run p) i x ms → Contains ms p
  pub turns : TakeTurns run

-- 1.4, and 2.2 to 2.4
pub record IsOrderly (run : List Log) : Type 0 where
  pub once : DeliversOnce run
  pub placed : (p : ℕ) → StaysInPlace (log_of run p)
  pub one : IsOneConfiguration run
  pub turns : TakeTurns run
