use Rattle.totem_evs.proofs.Common.{ap, RunRecord}
use Rattle.totem_verdicts.proofs.Reported.{no_explained}
use Rattle.totem_verdicts.proofs.explain_stream.write_words.Goals as goal

pub returns-in-Ok-explain_no : goal.returns-in-Ok-explain_no
returns-in-Ok-explain_no g c =
    rw (← ap (λ (r : RunRecord). r.version) c.run.view_is, c.in-No.is, ← c.deref-in-No.ensures.value) (no_explained c.args.columns _ _ _ _ c.in-Ok-explain_no.words _ c.in-Ok-explain_no.ensures c.write_no.ensures)
