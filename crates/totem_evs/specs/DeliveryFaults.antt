-- What it means that events break specification 1 (docs/SPECIFICATIONS.md, "Faults").
use Rattle.std.specs.Prelude.{◌≢◌, ◌≡◌, ◌⊎◌, ℕ, List, [], ◌∷◌}
use Rattle.totem_names.specs.declared.conf.ConfId.{ConfId}
use Rattle.totem_names.specs.declared.message.MsgId.{MsgId}
use Rattle.totem_names.specs.declared.place.Place.{Place}
use Rattle.totem_evs.specs.declared.entry.Entry.{Entry}
use Rattle.totem_evs.specs.declared.log.Log.{Log}
use Rattle.totem_evs.specs.Events.{Sends, Delivers, IsTransitional, log_of}
use Rattle.totem_evs.specs.Delivery.{WasSentFor}
use Rattle.totem_evs.specs.Places.{At, IsClosed, IsStep}

-- 1.1: a closed list of strict and twin steps
abbrev pub BreaksCycle : List Log → List Place → Type 0
BreaksCycle run places = IsClosed run (IsStep run) places

-- p's entry i delivers a message that was not sent for it
abbrev pub IsUnsent : List Log → ℕ → ℕ → Type 0
IsUnsent run p i = (m : MsgId) × (d : ConfId) × Delivers (log_of run p) i m d × (WasSentFor run p m d → ⊥)

-- 1.3: the delivery
abbrev pub BreaksUnsent : List Log → List Place → Type 0
BreaksUnsent run (e ∷ []) = At e (IsUnsent run)
BreaksUnsent run _ = ⊥

-- the entry is a send in a transitional configuration
abbrev pub SendsBetween : List Entry → ℕ → Type 0
SendsBetween log i = (m : MsgId) × (x : ConfId) × Sends log i m x × IsTransitional x

-- two different entries send one message
abbrev pub SendTwice : List Log → ℕ → ℕ → ℕ → ℕ → Type 0
SendTwice run p i q j = (m : MsgId) × (x y : ConfId) × Sends (log_of run p) i m x × Sends (log_of run q) j m y × ((p ≢ q) ⊎ (i ≢ j))

-- two different entries of one log deliver one message
abbrev pub DeliverTwice : List Log → ℕ → ℕ → ℕ → ℕ → Type 0
DeliverTwice run p i q j = (m : MsgId) × (x y : ConfId) × Delivers (log_of run p) i m x × Delivers (log_of run q) j m y × (p ≡ q) × (i ≢ j)

-- 1.4: the send; both sends; both deliveries
abbrev pub BreaksTwice : List Log → List Place → Type 0
BreaksTwice run (e ∷ []) = At e (λ p i. SendsBetween (log_of run p) i)
BreaksTwice run (e ∷ f ∷ []) = At e (λ p i. At f (λ q j. SendTwice run p i q j ⊎ DeliverTwice run p i q j))
BreaksTwice run _ = ⊥
