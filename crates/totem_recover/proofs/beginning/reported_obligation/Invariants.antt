use Rattle.totem_recover.proofs.Common.{◌≡◌, drop, reported_obligation}
use Rattle.totem_recover.proofs.beginning.reported_obligation.Given as goal

abbrev pub invariant-loop-member : goal.invariant-loop-member
invariant-loop-member l = reported_obligation l.member-items l.proc ≡ reported_obligation (drop l.member-index l.member-items) l.proc
