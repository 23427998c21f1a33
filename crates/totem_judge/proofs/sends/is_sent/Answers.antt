use Rattle.std.proofs.Common.{sym, ◌∙◌}
use Rattle.totem_judge.proofs.sends.is_sent.Goals as goal

pub returns : goal.returns
returns c = record {
  sent = c.in-Some.sent;
  number = c.in-Some-sent_number_at.number;
  sent_is = sym c.sent_at.ensures ∙ c.in-Some.is;
  number_is = sym c.sent_number_at.ensures ∙ c.in-Some-sent_number_at.is;
  among = c.contains.ensures.0 c.if-not-contains.false;
  before = rw c.deref.ensures.value at c.if-not-comes_before.ensures;
  linked = c.if-not-is_linked.ensures;
}
