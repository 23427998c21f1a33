-- Steps that can be taken back.
use Rattle.std.proofs.Common.{arith}
use Rattle.totem_ring.proofs.Common.{◌≡◌, ℕ, ◌+◌, [], length, Option, None, Ok, Err, Message, Token, Ring, Held, with_message, going_up, message_refusal, Done, unless_refused, on_message, kept_after, AnswersUndoably, taken_back, kept_again}
use Rattle.totem_ring.specs.declared.fault.RingFault.{RingFault}
use Rattle.totem_ring.specs.declared.fault.RingFault.TheVariants.{Memory}
use Rattle.totem_ring.specs.declared.outcome.RingOut.{RingOut}
use Rattle.totem_ring.specs.declared.undo.RingUndo.{RingUndo}
use Rattle.totem_ring.specs.declared.undo.RingUndo.TheVariants.{Message as OfMessage}
use Rattle.totem_ring.specs.Answers.{IsDone}
use Rattle.totem_ring.proofs.Rising.{remove-insert}
use Rattle.totem_ring.proofs.Holding.{not_held}

-- a step that isn't refused, and can be taken back
pub undoably : (refusal : Option RingFault) (done : Done) (out : RingOut) (undo : RingUndo) (old new : Ring) → refusal ≡ None → IsDone out new done → taken_back undo new ≡ old → AnswersUndoably (Ok (out, undo)) old new (unless_refused refusal done)
undoably refusal done out undo old new passed h back = grind arith

-- out of memory is a possible result of a step that isn't refused
pub undoable_memory : (refusal : Option RingFault) (done : Done) (old new : Ring) → refusal ≡ None → new ≡ old → AnswersUndoably (Err Memory) old new (unless_refused refusal done)
undoable_memory refusal done old new passed same = grind arith

-- the code of a message does its step, which can be taken back
pub message_comes : (s : Ring) (m : Message) (held : Held) (n : ℕ) (kept forgotten : Option Token) (out : RingOut)
    → message_refusal s m ≡ None → held ≡ with_message s.held m → out.handed.items ≡ going_up s.handed s.safe_to held → out.packets.items ≡ [] → n ≡ length out.handed.items
    → kept ≡ kept_after s.kept m.number → kept_again forgotten kept ≡ s.kept
    → AnswersUndoably (Ok (out, OfMessage m.number s.handed forgotten)) s (record s { held = held; handed = s.handed + n; kept = kept }) (on_message s m)
message_comes s m held n kept forgotten out passed held_is up_is packets_is n_is kept_is again = grind (arith, remove-insert, not_held, undoably)
