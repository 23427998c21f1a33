use Rattle.totem_cert.proofs.Common.{◌<◌, length, ◌∙◌, ap, arith, length-map, kind_of}
use Rattle.totem_cert.proofs.Lists.{at_index}
use Rattle.totem_cert.proofs.KindFacts.{kind_read}
use Rattle.totem_cert.proofs.CountSteps.{behind_few, behind_more, behind_all, at_most_more}
use Rattle.totem_cert.proofs.counts.count_log.Goals as goal

pub add-requires : goal.add-requires
add-requires c = at_most_more _ _ _ (behind_few _ _ _ _ _ _ c.requires.few c.requires.short c.loop-at.invariant) (omega arith)

pub loop-at-preserved : goal.loop-at-preserved
loop-at-preserved c =
    let within : c.loop-at.at < length c.args.entries.now = (let kinds = ap length c.requires.kinds ∙ length-map c.args.entries.now kind_of in let lt = c.loop-at-test.true in omega arith) in
    let (entry, at) = at_index c.args.entries.now c.loop-at.at within in
    behind_more _ _ _ _ _ _ c.loop-at.at entry c.class_kept.result at c.requires.long (c.class_kept.ensures entry (kind_read c.args.entries.now c.args.kinds.now c.loop-at.at entry _ c.requires.kinds at)) c.loop-at.invariant c.add.ensures

pub returns : goal.returns
returns c = behind_all _ _ _ _ _ _ _ (let kinds = ap length c.requires.kinds ∙ length-map c.args.entries.now kind_of in let end = c.loop-at-test.false in omega arith) c.requires.long c.loop-at.invariant (rw c.class_next.ensures at c.take.ensures)
