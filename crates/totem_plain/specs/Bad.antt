-- Which entries are bad alone, and which two are bad together (docs/SPECIFICATIONS.md, "Faults").
use Rattle.std.specs.Prelude.{◌≡◌, ℕ, List}
use Rattle.totem_names.specs.declared.ring.RingId.{RingId}
use Rattle.totem_names.specs.declared.conf.ConfId.{ConfId}
use Rattle.totem_names.specs.declared.conf.ConfId.TheVariants.{Regular}
use Rattle.totem_evs.specs.declared.entry.Entry.{Entry}
use Rattle.totem_evs.specs.declared.log.Log.{Log}
use Rattle.totem_evs.specs.declared.entry.Entry.TheVariants.{Conf, Send, Deliver}
use Rattle.totem_evs.specs.Events.{log_of, IsQuiet}
use Rattle.totem_evs.specs.Changes.{SharesEnd}
use Rattle.totem_evs.specs.Following.{Com, DeliversOrEnds}
use Rattle.totem_search.specs.Following.{NoNextChange, NeverChangesTo}
use Rattle.totem_plain.specs.Plain.{SomeOf, MissesSafe}

-- q is not quiet, and never changes to x
abbrev pub MayCome : List Log → ConfId → ℕ → Type 0
MayCome run x q = (IsQuiet run q → ⊥) × NeverChangesTo (log_of run q) x

-- a change with none after it, where p is quiet and a member does not share that end
abbrev pub IsLoneEnd : List Log → ℕ → List Entry → ℕ → Entry → Type 0
IsLoneEnd run p log i (Conf x ms) = IsQuiet run p × NoNextChange log i × SomeOf (λ q. SharesEnd run x q → ⊥) ms
IsLoneEnd run p log i _ = ⊥

-- a send by p in c that p does not deliver, without excuse
abbrev pub IsUnowned : List Log → RingId → ℕ → Entry → Type 0
IsUnowned run c p (Send m (Regular d) service) = (d ≡ c) × (DeliversOrEnds run p c m → ⊥)
IsUnowned run c p _ = ⊥

-- a delivery of a safe message that a member does not deliver in c or what follows it, without excuse
abbrev pub IsUnreached : List Log → RingId → List Entry → Entry → Type 0
IsUnreached run c log (Deliver m d) = Com log c d × MissesSafe (λ q. DeliversOrEnds run q c m → ⊥) run m d
IsUnreached run c log _ = ⊥

-- a delivery of a safe message in c, to which a member never changes
abbrev pub IsUninstalled : List Log → RingId → Entry → Type 0
IsUninstalled run c (Deliver m d) = (d ≡ Regular c) × MissesSafe (λ q. NeverChangesTo (log_of run q) d) run m d
IsUninstalled run c _ = ⊥
