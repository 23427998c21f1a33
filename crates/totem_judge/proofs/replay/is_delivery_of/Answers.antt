use Rattle.totem_judge.proofs.Common.{◌≡◌, ℕ, slice_get, Some, sym, ◌∙◌, subst, rules, slice_get-get_or}
use Rattle.totem_judge.proofs.replay.is_delivery_of.Goals as goal

pub returns : goal.returns
returns c = record {
  got = c.in-Some.got;
  sent = c.in-Some-sent_at.sent;
  number = c.in-Some-got_number_at.number;
  got_is = sym c.got_at.ensures ∙ c.in-Some.is;
  sent_is = sym c.sent_at.ensures ∙ c.in-Some-sent_at.is;
  message_is = search rules;
  number_is = sym c.got_number_at.ensures ∙ c.in-Some-got_number_at.is;
  own_number = subst (λ (n : ℕ). slice_get c.args.numbers.now c.args.at ≡ Some n) c.if-numbers-at.false (slice_get-get_or c.args.numbers.now c.args.at 0 c.if-at-numbers.false);
  there = c.if-not-is_there.ensures;
}
