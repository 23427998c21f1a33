use Rattle.totem_search.specs.Adding.{Adds}
use Rattle.totem_search.proofs.Adding.{AtSome}
use Rattle.totem_pass_d.proofs.WhatIsPending.{IsMissed}
use Rattle.totem_pass_d.proofs.pendings.add_missing.Given as goal

abbrev pub invariant-loop-message : goal.invariant-loop-message
invariant-loop-message l = Adds (AtSome (IsMissed l.stays.run.now.logs l.stays.ring l.stay.proc) l.sent l.message-index) l.fn.list.items l.list.items
