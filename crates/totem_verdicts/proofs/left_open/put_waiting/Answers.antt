use Rattle.totem_names.proofs.Writers.{wrote_then, wrote_both}
use Rattle.totem_verdicts.specs.Report.{waiting_line}
use Rattle.totem_verdicts.proofs.left_open.put_waiting.Goals as goal

pub returns : goal.returns
unfolding waiting_line
returns g c =
    wrote_then _ _ _ _ _ _ (
    wrote_both _ _ _ _ _ (
    wrote_both _ _ _ _ _ (
    wrote_both _ _ _ _ _ (
    wrote_both _ _ _ _ _ (
    wrote_both _ _ _ _ _ c.in_ok-put.ensures c.in_ok-put_process.ensures)
    c.in_ok-put-2.ensures) c.in_ok-put_conf.ensures) c.in_ok-put-3.ensures) c.in_ok-put_process-2.ensures) c.put-4.ensures
