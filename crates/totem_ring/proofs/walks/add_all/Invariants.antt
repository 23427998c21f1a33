use Rattle.totem_ring.specs.Invariant.{RisesFrom}
use Rattle.totem_ring.proofs.HoldingMore.{IsAhead}
use Rattle.totem_ring.proofs.walks.add_all.Given as goal

abbrev pub invariant-loop-message : goal.invariant-loop-message
invariant-loop-message l = record { ahead : IsAhead l.messages.entries l.initial.messages.entries l.seq l.new l.message-index; rises : RisesFrom 0 l.messages.entries }
