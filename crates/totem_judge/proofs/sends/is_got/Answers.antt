use Rattle.std.proofs.Common.{sym, ◌∙◌, refl, arith, rules}
use Rattle.totem_judge.proofs.sends.is_got.Goals as goal

pub returns : goal.returns
returns c = record {
  got = c.in-Some.got;
  sent = c.in-Some-sent_at.sent;
  origin = c.in-Some-origin_at.origin;
  got_is = sym c.got_at.ensures ∙ c.in-Some.is;
  sent_is = sym c.sent_at.ensures ∙ c.in-Some-sent_at.is;
  origin_is = sym c.origin_at.ensures ∙ c.in-Some-origin_at.is;
  sender = omega (arith, c.if-got-sent.false);
  kind = (let h = c.if-got-is_safe.false in let e = c.is_safe.ensures in search rules);
  behind = omega (arith, c.if-sent-index.false);
  within = λ log by. (c.if-not-is_within.ensures.0 refl).each log ((c.by-by.ensures log).1 by);
  among = λ log by. (c.if-not-is_within-2.ensures.0 refl).each log ((c.by-by.ensures log).1 by);
  some = (c.in-Some-least.field-0, (c.by-by.ensures c.in-Some-least.field-0).0 c.in-Some-least.ensures.some.has);
}
