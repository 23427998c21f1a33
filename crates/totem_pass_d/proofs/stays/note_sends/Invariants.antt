use Rattle.totem_pass_d.specs.Sends.{NotesSends}
use Rattle.totem_pass_d.proofs.stays.note_sends.Given as goal

abbrev pub invariant-loop-at : goal.invariant-loop-at
invariant-loop-at l = NotesSends l.stay l.at l.fn.sends l.sends
