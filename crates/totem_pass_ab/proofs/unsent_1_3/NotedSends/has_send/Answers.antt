use Rattle.totem_pass_ab.proofs.Sent.{sent_in, sent_regular, sent_before}
use Rattle.totem_pass_ab.proofs.unsent_1_3.NotedSends.has_send.Goals as goal

pub returns-in-Regular : goal.returns-in-Regular
returns-in-Regular c = rw c.in-Regular.is (sent_regular _ _ _ _ c.has.result (sent_in c.args.self.now.sends.items _ _ _ c.has.result (rw c.as_slice-sends.ensures.value at c.has.ensures) c.args.self.now.sent))

pub returns-in-Some : goal.returns-in-Some
returns-in-Some c =
    sent_before _ c.args.self.now.followed.rings _ _ _ _ _ c.has-in-Some.result c.in-Some.ensures.value c.args.self.now.follow (sent_in c.args.self.now.sends.items _ _ _ c.has-in-Some.result (rw c.as_slice-sends.ensures.value at c.has-in-Some.ensures) c.args.self.now.sent)
