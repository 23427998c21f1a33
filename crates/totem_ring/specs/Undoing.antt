-- Steps that are taken back (docs/PROTOCOL.md, "The ring").
use Rattle.std.specs.Prelude.{◌≡◌, take, Option, None, Some, Result, Ok, Err}
use Rattle.totem_packets.specs.declared.token.Token.{Token}
use Rattle.totem_ring.specs.declared.fault.RingFault.{RingFault}
use Rattle.totem_ring.specs.declared.fault.RingFault.TheVariants.{Memory}
use Rattle.totem_ring.specs.declared.outcome.RingOut.{RingOut}
use Rattle.totem_ring.specs.declared.undo.RingUndo.{RingUndo}
use Rattle.totem_ring.specs.declared.undo.VisitUndo.{VisitUndo}
use Rattle.totem_ring.specs.declared.undo.RingUndo.TheVariants.{Submit as OfSubmit, Message as OfMessage, Visit as OfVisit}
use Rattle.totem_ring.specs.Answers.{IsDone, IsRefused}
use Rattle.totem_ring.specs.Rings.{Ring, up_to, without}
use Rattle.totem_ring.specs.Steps.{Done}

-- a forgotten token is kept again
abbrev pub kept_again : Option Token → Option Token → Option Token
kept_again None kept = kept
kept_again (Some t) kept = Some t

-- the state before the step that is taken back
abbrev pub taken_back : RingUndo → Ring → Ring
taken_back (OfSubmit waited) s = record s { waiting = take waited s.waiting }
taken_back (OfMessage number handed forgotten) s =
    record s { held = without s.held number; handed = handed; kept = kept_again forgotten s.kept }
taken_back (OfVisit seq handed safe_to sent_aru last waiting kept) s =
    record s { held = up_to seq s.held; handed = handed; safe_to = safe_to; sent_aru = sent_aru; last = last; waiting = waiting.items; kept = kept }

-- the state before the visit, and before bodies were given for it
abbrev pub visit_taken_back : VisitUndo → Ring → Ring
visit_taken_back visit s = taken_back (OfSubmit visit.waited) (taken_back visit.undo s)

-- the state after a step, what it sent and delivered to the node, and that it can be taken back
pub record IsDoneUndoably (out : RingOut) (undo : RingUndo) (old new : Ring) (done : Done) : Type 0 where
  pub is_done : IsDone out new done
  pub undone : taken_back undo new ≡ old

-- the result of a call that also returns how to take it back
abbrev pub AnswersUndoably : Result (RingOut × RingUndo) RingFault → Ring → Ring → Result Done RingFault → Type 0
AnswersUndoably (Ok x) old new (Ok done) = IsDoneUndoably x.0 x.1 old new done
AnswersUndoably (Ok x) old new (Err refusal) = ⊥
AnswersUndoably (Err fault) old new (Ok done) = IsRefused fault old new Memory
AnswersUndoably (Err fault) old new (Err refusal) = IsRefused fault old new refusal

-- the same as IsDoneUndoably for a visit for which bodies were given to the ring
pub record IsVisitedUndoably (out : RingOut) (visit : VisitUndo) (old new : Ring) (done : Done) : Type 0 where
  pub is_done : IsDone out new done
  pub undone : visit_taken_back visit new ≡ old
