use Rattle.totem_judge_certificate.proofs.Common.{Err, Ok, ap, ◌∙◌, RunRecord, all_rise, one_falls}
use Rattle.totem_outcome.specs.declared.certificate_fault.CertificateFault.TheVariants as faults
use Rattle.totem_outcome.proofs.Exactly.{exactly}
use Rattle.totem_judge_certificate.proofs.Faulty.{ordered, named, refused}
use Rattle.totem_judge_certificate.proofs.certification.certified.Goals as goal

pub returns-then-not-all_rise-clause-answer : goal.returns-then-not-all_rise-clause-answer
returns-then-not-all_rise-clause-answer c =
    let runs = ap (λ (r : RunRecord). r.logs) c.run.view_is in
    let logs = c.as_slice-logs.ensures.value ∙ runs in
    let matches = rw (logs, c.as_slice-lines.ensures.value) at c.if-not-matches_logs.ensures in
    (matches, one_falls _ _ (rw runs at c.as_slice-logs.ensures.run.rising) matches (rw c.as_slice-lines.ensures.value at c.if-not-all_rise.ensures))

pub returns-then-not-all_rise-clause-exact : goal.returns-then-not-all_rise-clause-exact
returns-then-not-all_rise-clause-exact c = exactly _ _ (Err faults.NotRising) (returns-then-not-all_rise-clause-answer c)

pub returns-in_err-is_ordered-clause-memory : goal.returns-in_err-is_ordered-clause-memory
returns-in_err-is_ordered-clause-memory c =
    let runs = ap (λ (r : RunRecord). r.logs) c.run.view_is in
    let logs = c.as_slice-logs.ensures.value ∙ runs in
    let matches = rw (logs, c.as_slice-lines.ensures.value) at c.if-not-matches_logs.ensures in
    let rise = all_rise _ _ (rw runs at c.as_slice-logs.ensures.run.rising) matches (rw c.as_slice-lines.ensures.value at c.if-not-all_rise.ensures) in
    refused _ _ c.from_residual.result matches rise

pub returns-then-branch-clause-answer : goal.returns-then-branch-clause-answer
returns-then-branch-clause-answer c =
    let runs = ap (λ (r : RunRecord). r.logs) c.run.view_is in
    let logs = c.as_slice-logs.ensures.value ∙ runs in
    let matches = rw (logs, c.as_slice-lines.ensures.value) at c.if-not-matches_logs.ensures in
    let rise = all_rise _ _ (rw runs at c.as_slice-logs.ensures.run.rising) matches (rw c.as_slice-lines.ensures.value at c.if-not-all_rise.ensures) in
    ordered _ _ c.as_slice-lines.ensures.certificate matches rise (rw (logs, c.as_slice-lines.ensures.value) at (rw c.if-branch.true at c.in_ok-is_ordered.ensures))

pub returns-then-branch-clause-exact : goal.returns-then-branch-clause-exact
returns-then-branch-clause-exact c = exactly _ _ (Ok tt) (returns-then-branch-clause-answer c)

pub returns-in_err-spread-clause-memory : goal.returns-in_err-spread-clause-memory
returns-in_err-spread-clause-memory c =
    let runs = ap (λ (r : RunRecord). r.logs) c.run.view_is in
    let logs = c.as_slice-logs.ensures.value ∙ runs in
    let matches = rw (logs, c.as_slice-lines.ensures.value) at c.if-not-matches_logs.ensures in
    let rise = all_rise _ _ (rw runs at c.as_slice-logs.ensures.run.rising) matches (rw c.as_slice-lines.ensures.value at c.if-not-all_rise.ensures) in
    refused _ _ c.from_residual-in_err-spread.result matches rise

pub returns-clause-answer : goal.returns-clause-answer
returns-clause-answer c =
    let runs = ap (λ (r : RunRecord). r.logs) c.run.view_is in
    let logs = c.as_slice-logs.ensures.value ∙ runs in
    let matches = rw (logs, c.as_slice-lines.ensures.value) at c.if-not-matches_logs.ensures in
    let rise = all_rise _ _ (rw runs at c.as_slice-logs.ensures.run.rising) matches (rw c.as_slice-lines.ensures.value at c.if-not-all_rise.ensures) in
    named _ _ c.first_fault.result matches rise (rw (logs, c.as_slice-lines.ensures.value) at c.first_fault.ensures)

pub returns-clause-exact : goal.returns-clause-exact
returns-clause-exact c = exactly _ _ (Err c.first_fault.result) (returns-clause-answer c)
