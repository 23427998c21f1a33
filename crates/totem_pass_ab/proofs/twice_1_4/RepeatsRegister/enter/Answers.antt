use Rattle.totem_pass_ab.proofs.Common.{refl, slice_get_read, on_ok_weaker}
use Rattle.totem_names.specs.contracts.message.MsgIdOrd.TheImpl.Laws as message
use Rattle.totem_pass_ab.specs.contracts.twice_1_4.DeliveryOrd.TheImpl.Laws as delivery
use Rattle.totem_pass_ab.proofs.Repeating.{keeps_sends, keeps_deliveries, enters_delivery, enters_nothing, leaves_out, leaves_out_send}
use Rattle.totem_pass_ab.proofs.twice_1_4.RepeatsRegister.enter.Goals as goal

pub returns-then-not-self-clause-entered : goal.returns-then-not-self-clause-entered
returns-then-not-self-clause-entered c =
    let at = slice_get_read c.args.log.now _ c.args.at c.index-log-at.result refl c.requires.within c.index-log-at.is in
    leaves_out_send _ _ _ _ _ _ _ _ _ _ _ _ (rw c.in-Send.is at at) (λ may. let no = c.if-not-self.true in cc)

pub returns-else-not-self-clause-kept : goal.returns-else-not-self-clause-kept
returns-else-not-self-clause-kept c = on_ok_weaker c.meet.result (keeps_sends _ _ _ _ message.total-law c.args.self.now.sends.values c.meet.new.self.values _ _ _) c.meet.ensures.met

pub returns-then-not-is_doubtful-clause-entered : goal.returns-then-not-is_doubtful-clause-entered
returns-then-not-is_doubtful-clause-entered c =
    let at = slice_get_read c.args.log.now _ c.args.at c.index-log-at.result refl c.requires.within c.index-log-at.is in
    leaves_out _ _ _ _ _ _ _ _ _ _ _ (rw c.in-Deliver.is at at) (λ has. let t = c.is_doubtful.ensures.1 has in cc)

pub returns-else-not-is_doubtful-clause-entered : goal.returns-else-not-is_doubtful-clause-entered
returns-else-not-is_doubtful-clause-entered c =
    let at = slice_get_read c.args.log.now _ c.args.at c.index-log-at.result refl c.requires.within c.index-log-at.is in
    on_ok_weaker c.meet-in-Deliver.result (enters_delivery _ _ _ _ delivery.total-law _ c.args.self.now.deliveries.values c.meet-in-Deliver.new.self.values _ _ _ _ _ (rw c.in-Deliver.is at at)) c.meet-in-Deliver.ensures.met

pub returns-else-not-is_doubtful-clause-kept : goal.returns-else-not-is_doubtful-clause-kept
returns-else-not-is_doubtful-clause-kept c = on_ok_weaker c.meet-in-Deliver.result (keeps_deliveries _ _ _ _ delivery.total-law _ c.args.self.now.deliveries.values c.meet-in-Deliver.new.self.values _ _) c.meet-in-Deliver.ensures.met

pub returns-in_default-clause-entered : goal.returns-in_default-clause-entered
returns-in_default-clause-entered c =
    let at = slice_get_read c.args.log.now _ c.args.at c.index-log-at.result refl c.requires.within c.index-log-at.is in
    enters_nothing _ _ _ _ _ _ _ _ _ _ at c.in_default.not-Send c.in_default.not-Deliver
