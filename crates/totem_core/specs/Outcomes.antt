-- The result of a step or a part of one, or its refusal (docs/PROTOCOL.md, "The node").
use Rattle.std.specs.Prelude.{◌≡◌, ◌≢◌, Result, Ok, Err}
use Rattle.std.specs.Result.{IsOk}
use Rattle.totem_ring.specs.declared.fault.RingFault.{RingFault}
use Rattle.totem_member.specs.declared.fault.MemberFault.{MemberFault}
use Rattle.totem_core.specs.declared.fault.NodeFault.{NodeFault}
use Rattle.totem_core.specs.declared.fault.NodeFault.TheVariants.{Memory}
use Rattle.totem_core.specs.Faults.{of_ring, of_member}

abbrev pub Outcome : Type 0 → Type 0
Outcome A = Result A NodeFault

-- a ring's refusal as the node's
abbrev pub by_ring : {A : Type 0} → Result A RingFault → Outcome A
by_ring (Ok x) = Ok x
by_ring (Err fault) = Err (of_ring fault)

-- a membership refusal as the node's
abbrev pub by_member : {A : Type 0} → Result A MemberFault → Outcome A
by_member (Ok x) = Ok x
by_member (Err fault) = Err (of_member fault)

-- A refusal changes nothing. It is the written one, or out of memory where the step is taken.
pub record IsRefused {A B : Type 0} (fault : NodeFault) (old new : A) (written : Outcome B) : Type 0 where
  pub unchanged : new ≡ old
  pub fault_is : fault ≢ Memory → written ≡ Err fault
  pub wanting : fault ≡ Memory → IsOk written

-- the same for a call that changes nothing
pub record Fails {B : Type 0} (fault : NodeFault) (written : Outcome B) : Type 0 where
  pub fault_is : fault ≢ Memory → written ≡ Err fault
  pub wanting : fault ≡ Memory → IsOk written

-- the answer is the written one, or out of memory if it is no refusal
abbrev pub Gives : {A : Type 0} → Outcome A → Outcome A → Type 0
Gives (Ok x) written = written ≡ Ok x
Gives (Err fault) written = Fails fault written
