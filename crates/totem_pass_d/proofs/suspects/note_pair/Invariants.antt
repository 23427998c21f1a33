use Rattle.std.proofs.Common.{◌-◌}
use Rattle.totem_names.specs.contracts.message.MsgIdOrd.TheImpl as message
use Rattle.totem_pass_d.proofs.CausalityFaults.{SoFar}
use Rattle.totem_pass_d.proofs.suspects.note_pair.Given as goal

abbrev pub invariant-back : goal.invariant-back
invariant-back l = SoFar message.cmp-value.it l.fn.suspects l.suspects l.stays.run.now.logs l.stays.ring l.sender l.receiver l.next l.early

abbrev pub decreases-back : goal.decreases-back
decreases-back l = l.next - l.sender.from
