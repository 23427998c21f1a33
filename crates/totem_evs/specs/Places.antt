-- Places of a run, and closed lists of them (docs/SPECIFICATIONS.md, "Faults").
use Rattle.std.specs.Prelude.{◌≡◌, ◌≢◌, ◌⊎◌, ℕ, ◌+◌, List, [], ◌∷◌}
use Rattle.totem_names.specs.declared.message.MsgId.{MsgId}
use Rattle.totem_names.specs.declared.place.Place.{Place}
use Rattle.totem_evs.specs.declared.log.Log.{Log}
use Rattle.totem_evs.specs.Steps.{DeliversAt, Strict, Twin}

-- a fact about the process and the index of a place
abbrev pub At : Place → (ℕ → ℕ → Type 0) → Type 0
At e P = (i : ℕ) × (e.at ≡ i + 1) × P e.proc i

-- each event has a step to the next, and the last to end
abbrev pub Chain : (Place → Place → Type 0) → Place → List Place → Place → Type 0
Chain Step e [] end = Step e end
Chain Step e (f ∷ fs) end = Step e f × Chain Step f fs end

-- somewhere in the list an event has this step to the next, or the last to end
abbrev pub Somewhere : (Place → Place → Type 0) → Place → List Place → Place → Type 0
Somewhere Step e [] end = Step e end
Somewhere Step e (f ∷ fs) end = Step e f ⊎ Somewhere Step f fs end

-- a closed list of such steps, one of them strict
abbrev pub IsClosed : List Log → (Place → Place → Type 0) → List Place → Type 0
IsClosed run Step [] = ⊥
IsClosed run Step (e ∷ es) = Chain Step e es e × Somewhere (Strict run) e es e

-- a strict step or a twin step
abbrev pub IsStep : List Log → Place → Place → Type 0
IsStep run e f = Strict run e f ⊎ Twin run e f

-- different deliveries of one message are twins too
abbrev pub IsOrderStep : List Log → Place → Place → Type 0
IsOrderStep run e f = IsStep run e f ⊎ ((m : MsgId) × DeliversAt run e m × DeliversAt run f m × (e ≢ f))
