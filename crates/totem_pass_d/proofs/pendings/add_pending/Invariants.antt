use Rattle.totem_search.specs.Adding.{Adds}
use Rattle.totem_search.proofs.Adding.{AtSome}
use Rattle.totem_pass_d.proofs.WhatIsPending.{IsPendingThere}
use Rattle.totem_pass_d.proofs.pendings.add_pending.Given as goal

abbrev pub invariant-loop-stay : goal.invariant-loop-stay
invariant-loop-stay l = Adds (AtSome (IsPendingThere l.stays.run.now.logs l.stays.ring) l.stays.list.items l.stay-index) l.fn.list.items l.list.items
