-- What the result of a call says about its step (docs/PROTOCOL.md, "Gathering").
use Rattle.std.specs.Prelude.{◌≡◌, ℕ, ◌≤◌, ◌<◌, List, length, Result, Ok, Err}
use Rattle.std.specs.Result.{IsOk}
use Rattle.totem_packets.specs.declared.too_many.TooMany.{TooMany}
use Rattle.totem_packets.specs.Sets.{with_process}
use Rattle.totem_member.specs.declared.views.GatherOut.{GatherOut}
use Rattle.totem_member.specs.declared.fault.MemberFault.{MemberFault}
use Rattle.totem_member.specs.declared.fault.MemberFault.TheVariants.{Stranger, Stale, Range, Memory}
use Rattle.totem_member.specs.Gathers.{Gather, Gathered, new_gather}

-- The call took the step, or was refused: with the rules' own fault if they refuse the step, and with out of memory only
-- if they don't. A refused call changes nothing.
abbrev pub IsStep : Gather → Gather → Result GatherOut MemberFault → Result Gathered MemberFault → Type 0
IsStep old new (Ok out) step = step ≡ Ok (record { gather = new; out = out })
IsStep old new (Err Memory) step = IsOk step × (new ≡ old)
IsStep old new (Err Stranger) step = (step ≡ Err Stranger) × (new ≡ old)
IsStep old new (Err Stale) step = (step ≡ Err Stale) × (new ≡ old)
IsStep old new (Err Range) step = (step ≡ Err Range) × (new ≡ old)

-- The call's result is the defined one, or out of memory if that is no refusal.
abbrev pub IsAnswer : {A : Type 0} → Result A MemberFault → Result A MemberFault → Type 0
IsAnswer (Ok out) written = written ≡ Ok out
IsAnswer (Err Memory) written = IsOk written
IsAnswer (Err Stranger) written = written ≡ Err Stranger
IsAnswer (Err Stale) written = written ≡ Err Stale
IsAnswer (Err Range) written = written ≡ Err Range

-- The call begins a gathering of the base and the process itself, if these are at most 32.
abbrev pub Begins : Result Gather TooMany → ℕ → List ℕ → ℕ → Type 0
Begins (Ok g) me base seq = (g ≡ new_gather me base seq) × (length (with_process base me) ≤ 32)
Begins (Err many) me base seq = 32 < length (with_process base me)
