use Rattle.totem_pass_d.proofs.Common.{refl, slice_get_read}
use Rattle.totem_names.specs.contracts.message.MsgIdOrd.TheImpl as message
use Rattle.totem_pass_d.proofs.CausalityFaults.{pairs_more, pairs_next}
use Rattle.totem_pass_d.proofs.suspects.suspects_of.Goals as goal

pub loop-receiver-preserved : goal.loop-receiver-preserved
loop-receiver-preserved c =
    let s = c.args.stays.now in
    let sender = slice_get_read c.deref-sender-items.result.now _ _ c.sender-item.result refl c.loop-sender-test.true c.sender-item.is in
    let receiver = slice_get_read c.deref-receiver-items.result.now _ _ c.receiver-item.result refl c.loop-receiver-test.true c.receiver-item.is in
    pairs_more message.cmp-value.it c.loop-receiver.suspects c.note_pair.new.suspects s.run.now.logs s.ring s.list.items _ _ c.sender-item.result c.receiver-item.result
    (rw c.deref-sender-items.ensures.value at sender) (rw c.deref-receiver-items.ensures.value at receiver) c.in_ok-note_pair.ensures.noted c.in_ok-note_pair.ensures.kept c.loop-receiver.invariant

pub loop-sender-preserved : goal.loop-sender-preserved
loop-sender-preserved c =
    let s = c.args.stays.now in
    pairs_next message.cmp-value.it c.loop-receiver.suspects s.run.now.logs s.ring s.list.items c.loop-sender.sender-index _ (rw c.deref-receiver-items.ensures.value at c.loop-receiver-test.false) c.loop-receiver.invariant
