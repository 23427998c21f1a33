-- The results of calls, given the results of their steps (docs/PROTOCOL.md, "The ring").
use Rattle.std.specs.Prelude.{◌≡◌, Result, Ok, Err}
use Rattle.totem_ring.specs.declared.fault.RingFault.{RingFault}
use Rattle.totem_ring.specs.declared.fault.RingFault.TheVariants.{Memory}
use Rattle.totem_ring.specs.declared.outcome.RingOut.{RingOut}
use Rattle.totem_ring.specs.Rings.{Ring}
use Rattle.totem_ring.specs.Steps.{Done}

-- the state after a step, what it sent and what it delivered to the node
pub record IsDone (out : RingOut) (new : Ring) (done : Done) : Type 0 where
  pub state : new ≡ done.state
  pub packets : out.packets.items ≡ done.packets
  pub handed : out.handed.items ≡ done.handed

-- the fault is the step's refusal, or out of memory if the step isn't refused; nothing changes
pub record IsRefused (fault : RingFault) (old new : Ring) (written : RingFault) : Type 0 where
  pub unchanged : new ≡ old
  pub fault_is : fault ≡ written

-- the result of a call, given the step's result
abbrev pub Answers : Result RingOut RingFault → Ring → Ring → Result Done RingFault → Type 0
Answers (Ok out) old new (Ok done) = IsDone out new done
Answers (Ok out) old new (Err refusal) = ⊥
Answers (Err fault) old new (Ok done) = IsRefused fault old new Memory
Answers (Err fault) old new (Err refusal) = IsRefused fault old new refusal

-- the same for a call that sends and delivers nothing
abbrev pub AnswersNothing : Result (Unit {0}) RingFault → Ring → Ring → Result Done RingFault → Type 0
AnswersNothing (Ok u) old new (Ok done) = new ≡ done.state
AnswersNothing (Ok u) old new (Err refusal) = ⊥
AnswersNothing (Err fault) old new (Ok done) = IsRefused fault old new Memory
AnswersNothing (Err fault) old new (Err refusal) = IsRefused fault old new refusal
