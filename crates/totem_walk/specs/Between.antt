-- Causal delivery between two processes: where one delivers what the other sends, and what the sender sent or delivered before
-- (docs/SPECIFICATIONS.md, "5 Causal delivery", "Passes").
use Rattle.std.specs.Prelude.{◌≡◌, ◌↔◌, ℕ, ◌+◌, ◌<◌, List, length}
use Rattle.totem_names.specs.declared.ring.RingId.{RingId}
use Rattle.totem_names.specs.declared.conf.ConfId.TheVariants.{Regular}
use Rattle.totem_names.specs.declared.message.MsgId.{MsgId}
use Rattle.totem_names.specs.declared.place.Place.{Place}
use Rattle.totem_evs.specs.declared.log.Log.{Log}
use Rattle.totem_evs.specs.Events.{log_of}
use Rattle.totem_evs.specs.Steps.{SendsAt}
use Rattle.totem_evs.specs.Following.{DeliversIn}
use Rattle.totem_evs.specs.RingAgreement.{IsHop, CausalityIn}
use Rattle.totem_evs.specs.RingFaults.{IsUncausedIn}

-- how many entries the logs of p and q have together
abbrev pub entries_of_both : List Log → ℕ → ℕ → ℕ
entries_of_both run p q = length (log_of run p) + length (log_of run q)

-- what p sent in c, or delivered there, before it sent a message there is delivered by q before that message
pub record IsCausalBetween (run : List Log) (c : RingId) (p q : ℕ) : Type 0 where
  pub each : (m n : MsgId) (e f : Place) → SendsAt run e m (Regular c) → SendsAt run f n (Regular c) → f.proc ≡ p → IsHop run c m e f
      → (j : ℕ) → DeliversIn (log_of run q) c n j → (i : ℕ) × (i < j) × DeliversIn (log_of run q) c m i

-- two sends, the later one by p, and q's delivery of the later one's message, which break 5 in c
pub record BreaksBetween (run : List Log) (c : RingId) (p q : ℕ) : Type 0 where
  pub earlier : Place
  pub later : Place
  pub sender : later.proc ≡ p
  pub index : ℕ
  pub uncaused : IsUncausedIn run c earlier later q index

-- 5 holds in c exactly if it holds between each two processes
abbrev pub IsOfPairs : Type 0
IsOfPairs = (run : List Log) (c : RingId) → CausalityIn run c ↔ ((p q : ℕ) → IsCausalBetween run c p q)
