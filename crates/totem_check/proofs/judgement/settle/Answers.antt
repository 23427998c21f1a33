use Rattle.totem_pass_d.proofs.Common.{ap, RunRecord}
use Rattle.totem_check.specs.Judged.{IsViewOf}
use Rattle.totem_check.proofs.Judging.{met_agreed}
use Rattle.totem_check.proofs.judgement.settle.Goals as goal

pub returns : goal.returns
returns c =
    let run = c.args.run.now.logs in
    let runs = ap (λ (r : RunRecord). r.logs) c.run.view_is in
    let seen : IsViewOf run c.in-Some.view = rw c.in-Some.is at c.requires.seen in
    met_agreed run c.args.certificate.now.lines c.in-Some.view _ (rw runs at c.as_slice.ensures.run) c.requires.certified seen (rw c.if-not-agrees.false at c.agrees.ensures)
    (record { pending = seen.are; waiting = c.in_ok-waiting.ensures })
