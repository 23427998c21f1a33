use Rattle.std.proofs.lemmas.Grind.{common_steps}
use Rattle.std.proofs.Common.{arith}
use Rattle.totem_names.proofs.Writers.{wrote_then, wrote_both}
use Rattle.totem_evs.proofs.writing.put_entry.Goals as goal

pub returns-in_ok-put-in-Send-3 : goal.returns-in_ok-put-in-Send-3
returns-in_ok-put-in-Send-3 g c = rw c.in-Send.is (
    wrote_then _ _ _ _ _ _ (
    wrote_both _ _ _ _ _ (
    wrote_both _ _ _ _ _ (
    wrote_both _ _ _ _ _ (
    wrote_both _ _ _ _ _ c.in_ok-put-in-Send.ensures c.in_ok-put_conf-in-Send.ensures)
    c.in_ok-put-in-Send-2.ensures) c.in_ok-put_service-in-Send.ensures) c.in_ok-put-in-Send-3.ensures) c.put_message.ensures)

pub returns-in_ok-put-in-Deliver-2 : goal.returns-in_ok-put-in-Deliver-2
returns-in_ok-put-in-Deliver-2 g c = grind (arith, common_steps, wrote_then, wrote_both)
