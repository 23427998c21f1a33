use Rattle.totem_member.proofs.Common.{◌≡◌, drop, report_of}
use Rattle.totem_member.proofs.act.has_reported_this.Given as goal

abbrev pub invariant-loop-member : goal.invariant-loop-member
invariant-loop-member l = report_of l.members l.proc ≡ report_of (drop l.member-index l.members) l.proc
