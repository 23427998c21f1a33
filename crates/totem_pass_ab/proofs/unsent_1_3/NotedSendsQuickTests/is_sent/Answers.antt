use Rattle.totem_pass_ab.proofs.Sent.{sent_is_fine}
use Rattle.totem_pass_ab.proofs.unsent_1_3.NotedSendsQuickTests.is_sent.Goals as goal

pub returns-in-Deliver : goal.returns-in-Deliver
returns-in-Deliver c = rw c.in-Deliver.is (sent_is_fine _ _ c.has_send.ensures)
