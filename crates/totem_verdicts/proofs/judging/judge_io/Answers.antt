use Rattle.std.proofs.Common.{refl}
use Rattle.totem_verdicts.specs.Endings.{judged, failed, checked, unchecked}
use Rattle.totem_verdicts.proofs.judging.judge_io.Goals as goal

pub returns-in-Ok : goal.returns-in-Ok
returns-in-Ok g c = rw (c.in-Check.is, c.status.ensures) (checked _ c.in-Ok.ensures refl)

pub returns-in-Err : goal.returns-in-Err
returns-in-Err g c = rw (c.in-Check.is, c.tell_fault.ensures.status) (unchecked _ c.in-Err.ensures c.tell_fault.ensures.line)

pub returns-in-Ok-report_io : goal.returns-in-Ok-report_io
returns-in-Ok-report_io g c = rw (c.in-Audit.is, c.status-in-Ok-report_io.ensures) (judged _ c.in-Ok-report_io.ensures refl)

pub returns-in-Err-report_io : goal.returns-in-Err-report_io
returns-in-Err-report_io g c =
    rw (c.in-Audit.is, c.tell_fault-in-Err-report_io.ensures.status) (failed _ c.in-Err-report_io.ensures c.tell_fault-in-Err-report_io.ensures.line)

pub returns-in-Explain : goal.returns-in-Explain
returns-in-Explain g c = rw c.in-Explain.is c.explain.ensures

pub returns-in-Message : goal.returns-in-Message
returns-in-Message g c = rw c.in-Message.is c.trace.ensures
