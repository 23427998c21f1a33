use Rattle.totem_names.proofs.Each.{each_more, each_whole}
use Rattle.totem_names.proofs.lists.keep_their_rules.Goals as goal

pub loop-x-preserved : goal.loop-x-preserved
loop-x-preserved g c = each_more g.T.Listed.keeps _ _ _ c.loop-x-test.true c.x-item.is c.keeps_its_rule.ensures c.loop-x.invariant

pub returns : goal.returns
returns g c = each_whole g.T.Listed.keeps _ _ c.loop-x-test.false c.loop-x.invariant
