use Rattle.std.proofs.Common.{◌≡◌, ℕ, ◌<◌, slice_index_or}
use Rattle.totem_evs.proofs.members.Members.contains.Given as goal

-- none of the members before is the process
abbrev pub invariant-loop-member : goal.invariant-loop-member
invariant-loop-member l = (k : ℕ) → k < l.member-index → slice_index_or l.self k l.proc ≡ l.proc → ⊥
