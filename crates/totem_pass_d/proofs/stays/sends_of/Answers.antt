use Rattle.totem_pass_d.proofs.Common.{refl, slice_get_read}
use Rattle.totem_pass_d.proofs.Sending.{sends_more}
use Rattle.totem_pass_d.proofs.stays.sends_of.Goals as goal

pub loop-stay-preserved : goal.loop-stay-preserved
loop-stay-preserved c =
    let at = slice_get_read c.args.list.now _ c.loop-stay.stay-index c.stay-item.result refl c.loop-stay-test.true c.stay-item.is in
    sends_more c.args.list.now c.loop-stay.stay-index c.loop-stay.sends c.note_sends.new.sends c.stay-item.result at c.in_ok-note_sends.ensures c.loop-stay.invariant
