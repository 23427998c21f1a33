use Rattle.totem_names.specs.contracts.message.MsgIdOrd.TheImpl as message
use Rattle.totem_pass_d.specs.Suspects.{AreSuspects}
use Rattle.totem_pass_d.proofs.suspects.suspects_of.Given as goal

abbrev pub invariant-loop-sender : goal.invariant-loop-sender
invariant-loop-sender l = AreSuspects message.cmp-value.it l.suspects l.stays.run.now.logs l.stays.ring l.stays.list.items l.sender-index 0

abbrev pub invariant-loop-receiver : goal.invariant-loop-receiver
invariant-loop-receiver l = AreSuspects message.cmp-value.it l.suspects l.stays.run.now.logs l.stays.ring l.stays.list.items l.sender-index l.receiver-index
