use Rattle.totem_evs.proofs.Common.{Contains, ◌↔◌, ℕ, ◌⊎◌, take}
use Rattle.totem_evs.proofs.roster.wait_for.Given as goal

abbrev pub invariant-loop-member : goal.invariant-loop-member
invariant-loop-member l = (q : ℕ) → Contains l.waiting q ↔ (Contains l.initial.waiting q ⊎ (Contains (take l.member-index l.members) q × (Contains l.begun q → ⊥)))
