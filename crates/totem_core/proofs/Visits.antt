-- What a ring refuses, and what a visit needs.
use Rattle.totem_core.proofs.Common.{◌≡◌, ◌≢◌, ℕ, ◌+◌, ◌^◌, ◌<◌, Bool, true, false, not, List, length, Option, None, Some, Err, refl, sym, ap, ◌∙◌, subst, length-append, nat_le, if◌then◌else◌, Body, Message, Token, has, Ring, same_ring, holds, message_refusal, token_refusal, is_token_in_range, Done, given, unless_refused, on_message, after_message, AnswersUndoably, numbered, IsRefused, message_told}
use Rattle.totem_ring.specs.declared.fault.RingFault.{RingFault}
use Rattle.totem_ring.specs.declared.fault.RingFault.TheVariants as ring_fault
use Rattle.totem_ring.proofs.Numbering.{length-numbered}
use Rattle.totem_ring.proofs.VisitAnswers.{own_fits}
use Rattle.totem_core.specs.declared.fault.NodeFault.TheVariants.{Memory}
use Rattle.totem_core.specs.Faults.{of_ring}

-- where nothing refuses a token, there are numbers for all that waits
pub room_with : (ring : Ring) (bodies : List Body) (t : Token) → token_refusal (given ring bodies) t ≡ None → t.seq + (length ring.waiting + length bodies) < 2 ^ 32
room_with ring bodies t passed =
    let now : Ring = given ring bodies in
    let P : ℕ → Type 0 = λ n. t.seq + n < 2 ^ 32 in
    subst P (length-numbered now t.seq now.waiting ∙ length-append ring.waiting bodies) (own_fits now t (numbered now t.seq now.waiting) passed refl)

-- a refusal of the ring isn't out of memory
three : (other again out : Bool) (fault : RingFault)
    → (if other then Some ring_fault.OtherRing else if again then Some ring_fault.Repeat else if out then Some ring_fault.Range else None) ≡ Some fault → of_ring fault ≢ Memory
three other again out ring_fault.OtherRing is wanting = cc
three other again out ring_fault.Repeat is wanting = cc
three other again out ring_fault.Range is wanting = cc
three other again out ring_fault.Full is wanting = cc
three true again out ring_fault.Memory is wanting = cc
three false true out ring_fault.Memory is wanting = cc
three false false true ring_fault.Memory is wanting = cc
three false false false ring_fault.Memory is wanting = cc

pub refused_early : (s : Ring) (t : Token) (fault : RingFault) → token_refusal s t ≡ Some fault → of_ring fault ≢ Memory
refused_early s t fault is = three (not (same_ring t.ring s.ring)) (nat_le t.token_seq s.last) (not (is_token_in_range s t)) fault is

refused_by : (o : Option RingFault) (done : Done) (ring new : Ring) (m : Message) (fault : RingFault) → message_refusal ring m ≡ o → after_message ring m ≡ done
    → AnswersUndoably (Err fault) ring new (unless_refused o done) → IsRefused (of_ring fault) ring new (message_told ring m)
refused_by None done ring new m fault passed is answer = record {
  unchanged = answer.unchanged;
  fault_is = λ other. absurd (other (ap of_ring answer.fault_is));
  wanting = λ e. rw passed refl;
}
refused_by (Some written) done ring new m fault refused is answer = record {
  unchanged = answer.unchanged;
  fault_is = λ other. rw (refused, answer.fault_is) refl;
  wanting = λ e. absurd (three (not (same_ring m.ring ring.ring)) (holds ring.held m.number) (not (has ring.members m.sender)) fault (refused ∙ ap (λ f. Some f) (sym answer.fault_is)) e);
}

pub message_refused : (ring new : Ring) (m : Message) (fault : RingFault) → AnswersUndoably (Err fault) ring new (on_message ring m) → IsRefused (of_ring fault) ring new (message_told ring m)
message_refused ring new m fault answer = refused_by (message_refusal ring m) (after_message ring m) ring new m fault refl refl answer
