-- The code of a visit does what the visit is defined to do.
use Rattle.totem_ring.proofs.Common.{Vec, Global, ◌≡◌, ℕ, ◌+◌, ◌^◌, ◌<◌, List, [], length, Option, Some, None, false, refl, ◌∙◌, ap, arith, All, Body, Message, Token, up_to, Ring, Held, with_messages, token_refusal, holds_above, numbered, after_token, IsDoneUndoably}
use Rattle.totem_ring.specs.declared.departure.Departure.{Departure}
use Rattle.totem_ring.specs.declared.requests.Answered.{Answered}
use Rattle.totem_ring.specs.declared.undo.RingUndo.TheVariants.{Visit as OfVisit}
use Rattle.totem_ring.specs.Departures.{IsAnswered, IsDeparture}
use Rattle.totem_ring.proofs.Numbering.{length-numbered}
use Rattle.totem_ring.proofs.VisitSteps.{has_passed, numbered_above, forgotten}
use Rattle.totem_ring.proofs.HoldingMore.{up_to-messages}

-- the count of waiting bodies
pub own_count : (s : Ring) (t : Token) (own : List Message) (n : ℕ) → own ≡ numbered s t.seq s.waiting → n ≡ length own → n ≡ length s.waiting
own_count s t own n is len = len ∙ ap length is ∙ length-numbered s t.seq s.waiting

-- the numbers given fit
pub own_fits : (s : Ring) (t : Token) (own : List Message) → token_refusal s t ≡ None → own ≡ numbered s t.seq s.waiting → t.seq + length own < 2 ^ 32
own_fits s t own passed is = rw (own_count s t own (length own) is refl) (has_passed s t passed).seq_fits

-- own messages are above what was given
pub own_above : (s : Ring) (t : Token) (own : List Message) → own ≡ numbered s t.seq s.waiting → All (λ (m : Message). t.seq < m.number) own
own_above s t own is = rw is (numbered_above s t.seq t.seq s.waiting (omega arith))

-- removing own messages leaves what was held before
pub back_again : (s : Ring) (t : Token) (held new newer : Held) (own lent : List Message) → token_refusal s t ≡ None → own ≡ numbered s t.seq s.waiting → held ≡ s.held → lent ≡ own
    → new ≡ with_messages held lent → newer ≡ up_to t.seq new → newer ≡ held
back_again s t held new newer own lent passed own_is same lent_is is back =
    let none : holds_above held t.seq ≡ false = rw same (has_passed s t passed).none_above in
    forgotten held new newer t.seq none (ap (up_to t.seq) (is ∙ ap (with_messages held) lent_is) ∙ up_to-messages t.seq held own (own_above s t own own_is)) back

-- the code of a visit does the visit, which can be taken back
pub departs : (s : Ring) (t : Token) (held : Held) (answered : Answered) (own lent : List Message) (n last : ℕ) (waiting waited : Vec Body Global) (kept : Option Token) (d : Departure)
    → token_refusal s t ≡ None → own ≡ numbered s t.seq s.waiting → lent ≡ own → held ≡ with_messages s.held lent → IsAnswered s.held t.rtr answered
    → IsDeparture (record s { held = held }) t answered own d
    → n ≡ length d.handed.items → last ≡ t.token_seq → waiting.items ≡ [] → waited.items ≡ s.waiting → kept ≡ s.kept
    → IsDoneUndoably (record { packets = d.packets; handed = d.handed }) (OfVisit t.seq s.handed s.safe_to s.sent_aru s.last waited kept) s (record {
      me = s.me;
      ring = s.ring;
      members = s.members;
      held = held;
      handed = s.handed + n;
      safe_to = d.safe_to;
      sent_aru = d.leaving.aru;
      last = last;
      waiting = waiting.items;
      kept = Some d.leaving;
    }) (after_token s t)
departs s t held answered own lent n last waiting waited kept d passed own_is lent_is held_is asked h n_is last_is waiting_is waited_is kept_is =
    let count = own_count s t own (length own) own_is refl in
    let back : up_to t.seq held ≡ s.held = back_again s t s.held held (up_to t.seq held) own lent passed own_is refl lent_is held_is refl in
    record {
      is_done = grind (arith, h.leaving, h.packets, h.handed, h.safe_to, asked.messages, asked.rtr);
      undone = rw (back, waited_is, kept_is) refl;
    }
