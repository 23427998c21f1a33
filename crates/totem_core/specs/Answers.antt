-- Contracts of the calls that take a step of a node (docs/PROTOCOL.md, "The node").
use Rattle.std.specs.Prelude.{◌≡◌, [], Result, Ok, Err}
use Rattle.std.specs.declared.alloc.AllocError.{AllocError}
use Rattle.totem_names.specs.declared.conf.ConfId.TheVariants.{Regular}
use Rattle.totem_packets.specs.declared.message.Message.{Message}
use Rattle.totem_ring.specs.declared.outcome.RingOut.{RingOut}
use Rattle.totem_ring.specs.Rings.{Ring}
use Rattle.totem_recover.specs.Finish.{deliveries}
use Rattle.totem_ring.specs.Steps.{on_resend}
use Rattle.totem_core.specs.declared.fault.NodeFault.TheVariants.{Memory}
use Rattle.totem_core.specs.Visiting.{resend_steps, message_steps, adopting, carried}
use Rattle.totem_core.specs.declared.outcome.StepOut.{StepOut}
use Rattle.totem_core.specs.Outcomes.{Outcome, IsRefused}
use Rattle.totem_core.specs.Nodes.{Node, Stepped, Told}

-- The result of a call to the written step: this step, or its refusal. A refused step changes nothing.
abbrev pub IsStep : Node → Node → Outcome StepOut → Outcome Stepped → Type 0
IsStep old new (Ok out) written =
    written ≡ Ok (record { node = new; packets = out.packets.items; entries = out.entries.items; ring_steps = out.ring_steps.items })
IsStep old new (Err fault) written = IsRefused fault old new written

-- the same for a step on one ring
abbrev pub IsTold : Ring → Ring → Outcome StepOut → Outcome Told → Type 0
IsTold old new (Ok out) written =
    written ≡ Ok (record { ring = new; packets = out.packets.items; entries = out.entries.items; ring_steps = out.ring_steps.items })
IsTold old new (Err fault) written = IsRefused fault old new written

-- the token that the ring passed on is sent again: the ring doesn't change, and the only refusal is out of memory
abbrev pub IsResent : Outcome StepOut → Ring → Type 0
IsResent (Ok out) ring = (out.packets.items ≡ (on_resend ring).packets) × (out.entries.items ≡ []) × (out.ring_steps.items ≡ resend_steps ring.ring)
IsResent (Err fault) ring = fault ≡ Memory

-- what is reported of a message that the new ring took; the installed ring has adopted the message that it carries
abbrev pub TellsAdopting : Result StepOut AllocError → Ring → Ring → Ring → Message → RingOut → Type 0
TellsAdopting (Ok told) installed now ring m out =
    (told.packets.items ≡ out.packets.items)
    × (told.entries.items ≡ deliveries (Regular ring.ring) out.handed.items)
    × (told.ring_steps.items ≡ message_steps ring.ring m)
    × (now ≡ adopting installed (carried m.body))
TellsAdopting (Err e) installed now ring m out = now ≡ installed

-- a message in Recovery, whose carried message the installed ring may adopt; a refusal changes neither ring
abbrev pub IsToldAdopting : Outcome StepOut → Ring → Ring → Ring → Ring → Message → Outcome Told → Type 0
IsToldAdopting (Ok out) installed now old new m written = IsTold old new (Ok out) written × (now ≡ adopting installed (carried m.body))
IsToldAdopting (Err fault) installed now old new m written = IsTold old new (Err fault) written × (now ≡ installed)
