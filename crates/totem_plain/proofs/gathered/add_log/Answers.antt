use Rattle.totem_plain.proofs.Common.{refl, slice_get_read}
use Rattle.totem_search.proofs.Adding.{some_more, all_added}
use Rattle.totem_plain.proofs.gathered.add_log.Goals as goal

pub loop-entry-preserved : goal.loop-entry-preserved
loop-entry-preserved g c =
    let at = slice_get_read c.args.log.now _ c.loop-entry.entry-index c.entry-item.result refl c.loop-entry-test.true c.entry-item.is in
    some_more (λ e x. g.T.Gathered.gives c.args.run.now.logs c.args.proc e x) _ _ c.entry-item.result _ _ _ at c.in_ok-add.ensures c.loop-entry.invariant

pub returns : goal.returns
returns g c = all_added (λ e x. g.T.Gathered.gives c.args.run.now.logs c.args.proc e x) _ _ _ _ c.loop-entry-test.false c.loop-entry.invariant
