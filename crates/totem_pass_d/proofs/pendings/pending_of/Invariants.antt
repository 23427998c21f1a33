use Rattle.totem_search.specs.Adding.{Adds}
use Rattle.totem_search.proofs.Adding.{AtSome}
use Rattle.totem_pass_d.specs.Pendings.{IsPendingIn}
use Rattle.totem_pass_d.proofs.pendings.pending_of.Given as goal

abbrev pub invariant-loop-ring : goal.invariant-loop-ring
invariant-loop-ring l = Adds (AtSome (IsPendingIn l.jobs.run.now.logs) l.jobs.rings.items l.ring-index) l.initial.list.items l.list.items
