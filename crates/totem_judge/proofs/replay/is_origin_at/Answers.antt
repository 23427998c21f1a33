use Rattle.totem_judge.proofs.Common.{◌≡◌, ℕ, slice_get, Some, sym, ◌∙◌, subst, slice_get-get_or}
use Rattle.totem_judge.proofs.replay.is_origin_at.Goals as goal

pub returns : goal.returns
returns c = record {
  sent = c.in-Some.sent;
  origin = c.in-Some-origin_at.origin;
  number = c.in-Some-sent_number_at.number;
  sent_is = sym c.sent_at.ensures ∙ c.in-Some.is;
  origin_is = sym c.origin_at.ensures ∙ c.in-Some-origin_at.is;
  number_is = sym c.sent_number_at.ensures ∙ c.in-Some-sent_number_at.is;
  sender = c.if-sent-log.false;
  own_number = subst (λ (n : ℕ). slice_get c.args.numbers.now c.args.at ≡ Some n) c.if-numbers-at.false (slice_get-get_or c.args.numbers.now c.args.at 0 c.if-at-numbers.false);
  send = c.if-not-is_send_of.ensures;
}
