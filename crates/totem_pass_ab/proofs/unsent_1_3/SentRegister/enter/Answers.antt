use Rattle.totem_pass_ab.proofs.Common.{refl, slice_get_read}
use Rattle.totem_pass_ab.proofs.Sent.{one_more_send}
use Rattle.totem_pass_ab.proofs.unsent_1_3.SentRegister.enter.Goals as goal

pub returns-clause-sound : goal.returns-clause-sound
returns-clause-sound c =
    let at = slice_get_read c.args.log.now _ c.args.at c.index-log-at.result refl c.requires.within c.index-log-at.is in
    one_more_send c.args.self.now.sends.items c.push.new.self.items _ _ _ _ _ _ _ (rw c.in-Send.is at at) c.in-Regular.is c.in_ok-push.ensures.items
