use Rattle.totem_packets.proofs.Common.{ap, sym, ◌∙◌, length, length-map, processes_of}
use Rattle.totem_packets.proofs.SetFacts.{unlike}
use Rattle.totem_packets.proofs.commit_members.CommitMembers.are.Goals as goal

pub returns-then-members-list : goal.returns-then-members-list
returns-then-members-list c = unlike (processes_of c.args.self.now) c.args.processes.now (λ e. c.if-members-list.true (ap length c.as_slice-members.ensures.value ∙ sym (length-map c.args.self.now (λ m. m.proc)) ∙ e ∙ sym (ap length c.as_slice-list.ensures.value)))
