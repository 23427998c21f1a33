use Rattle.totem_table.proofs.Common.{refl, slice_get_read}
use Rattle.totem_table.proofs.Changing.{one_more, no_more}
use Rattle.totem_table.proofs.changes.changes_in.Goals.{in-Conf+in_ok-push, in_default}
use Rattle.totem_table.proofs.changes.changes_in.Goals as goal

pub loop-at-preserved : goal.loop-at-preserved
loop-at-preserved c =
    let at = slice_get_read c.args.entries.now _ c.loop-at.at c.index-entries-at.result refl c.loop-at-test.true c.index-entries-at.is in
    elim c.match-entry.branch [
      | in-Conf+in_ok-push w ↦ rw (w.list-is, w.in_ok-push.ensures.items) (one_more c.args.entries.now c.loop-at.at c.loop-at.list.items (_, (_, rw w.in-Conf.is at at)) c.loop-at.invariant)
      | in_default w ↦ rw w.list-is (no_more c.args.entries.now c.loop-at.at _ c.loop-at.list.items at w.in_default.not-Conf c.loop-at.invariant)
    ]
