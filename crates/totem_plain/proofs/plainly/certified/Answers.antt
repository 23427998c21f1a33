use Rattle.totem_plain.proofs.Common.{ap, ◌∙◌, RunRecord}
use Rattle.totem_plain.proofs.plainly.certified.Goals as goal

pub returns : goal.returns
returns c = rw (c.as_slice.ensures.value ∙ ap (λ (r : RunRecord). r.logs) c.run.view_is, c.as_slice-2.ensures.value) at c.lines_certify.ensures
