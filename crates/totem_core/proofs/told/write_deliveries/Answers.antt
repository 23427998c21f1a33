use Rattle.totem_core.proofs.Telling.{one_delivered}
use Rattle.totem_core.proofs.told.write_deliveries.Goals as goal

pub loop-message-preserved : goal.loop-message-preserved
loop-message-preserved c =
    one_delivered _ _ _ _ _ _ c.message-item.result c.loop-message.invariant c.loop-message-test.true c.message-item.is c.in_ok-deliver.ensures
