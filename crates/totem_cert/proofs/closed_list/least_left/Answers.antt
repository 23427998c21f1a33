use Rattle.totem_cert.proofs.Common.{ap, ◌∙◌, LogRecord, RunRecord}
use Rattle.totem_cert.proofs.Least.{least_left_is}
use Rattle.totem_cert.proofs.closed_list.least_left.Goals as goal

pub returns : goal.returns
returns c =
    let runs = ap (λ (r : RunRecord). r.logs) c.run.view_is in
    rw (ap (λ (l : LogRecord). l.proc) c.log.view_is) (least_left_is _ _ _ _ c.index-as_slice-k.result c.index-lines-k.result c.numbers.result.now (rw runs at c.as_slice.ensures.run) c.requires.sound c.requires.none c.requires.left (c.as_slice.ensures.value ∙ runs) c.index-as_slice-k.is c.index-lines-k.is c.numbers.ensures)
