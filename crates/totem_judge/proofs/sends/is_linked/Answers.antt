use Rattle.totem_judge.proofs.Common.{sym, ◌∙◌, arith, OnTrue_from, IsLinked}
use Rattle.totem_judge.proofs.sends.is_linked.Goals as goal

pub returns-then-got-index : goal.returns-then-got-index
returns-then-got-index c = OnTrue_from _ (IsLinked c.args.gathered.now.got.items c.args.index c.args.sent.now) (λ within. record {
  each = λ log has. record {
    at = c.in-Some.at;
    got = c.in-Some-got_at.got;
    stands = sym c.got_at.ensures ∙ c.in-Some-got_at.is;
    of = omega (arith, c.if-got-index.true);
    by = (c.by.ensures log).0 ((c.is_within.ensures.0 within).each log has);
  };
})
