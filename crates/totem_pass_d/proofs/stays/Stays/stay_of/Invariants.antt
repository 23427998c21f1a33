use Rattle.totem_pass_d.proofs.Searching.{NotBefore}
use Rattle.totem_pass_d.proofs.stays.Stays.stay_of.Given as goal

abbrev pub invariant-loop-stay : goal.invariant-loop-stay
invariant-loop-stay l = NotBefore l.self.list.items l.proc l.stay-index
