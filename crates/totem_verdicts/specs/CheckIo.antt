-- What checking a stream returns, reads and writes (docs/SPECIFICATIONS.md, "The checker").
use Rattle.std.specs.Prelude.{◌≡◌, ◌≢◌, ◌⊎◌, ℕ, ◌+◌, ◌%◌, ◌^◌, [], ◌∷◌, ◌++◌, IfSome, Result, Ok, Err}
use Rattle.std.specs.Io.KnownBytes.{Consumes, Keeps}
use Rattle.totem_names.specs.Sources.{Seen}
use Rattle.totem_names.specs.Writing.{Held, Wrote}
use Rattle.totem_evs.specs.RunRecord.{RunRecord}
use Rattle.totem_evs.specs.declared.fault.Fault.{Fault}
use Rattle.totem_evs.specs.declared.run.Run.{Run}
use Rattle.totem_evs.specs.declared.run_fault.RunFault.TheVariants as run_faults
use Rattle.totem_evs.specs.Runs.{IsRunOf}
use Rattle.totem_evs.specs.RunText.{run_text}
use Rattle.totem_evs.specs.Missing.{EachHasLog, all_members}
use Rattle.totem_evs.specs.Reading.{ReadsRun, FitsRun}
use Rattle.totem_evs.specs.Certificates.{Certified}
use Rattle.totem_certificate.specs.declared.certificate.Certificate.{Certificate}
use Rattle.totem_certificate.specs.declared.cert_fault.CertFault.{CertFault}
use Rattle.totem_certificate.specs.declared.cert_fault.CertFault.TheVariants as cert_faults
use Rattle.totem_certificate.specs.CertRecord.{CertRecord}
use Rattle.totem_certificate.specs.Keeping.{IsCertificateOf}
use Rattle.totem_certificate.specs.CertText.{cert_text}
use Rattle.totem_certificate.specs.Reading.{ReadsCert, IsRead}
use Rattle.totem_outcome.specs.declared.accepted.Accepted.{Accepted}
use Rattle.totem_outcome.specs.declared.check_fault.CheckFault.{CheckFault}
use Rattle.totem_outcome.specs.declared.check_fault.CheckFault.TheVariants as check_faults
use Rattle.totem_outcome.specs.Checks.{Checks, IsAcceptable, ListsOpen, IsFirstFault}
use Rattle.totem_verdicts.specs.Report.{accepted_text, no_text}
use Rattle.totem_verdicts.specs.declared.outcome.Outcome.{Outcome}
use Rattle.totem_verdicts.specs.declared.outcome.Outcome.TheVariants as outcomes
use Rattle.totem_verdicts.specs.declared.verdict_fault.VerdictFault.{VerdictFault}
use Rattle.totem_verdicts.specs.declared.verdict_fault.VerdictFault.TheVariants as faults

-- ---- the certificate, to the end of the input

-- the rest of the input was the text of a certificate, and all of it was read
pub record IsLast (old new : Seen) (cert : CertRecord) : Type 0 where
  pub is : IsCertificateOf cert
  pub text : IfSome old.remaining (λ bytes. bytes ≡ cert_text cert)
  pub taken : Consumes old.remaining new.remaining (cert_text cert)
  pub failures : new.failures ≡ old.failures

-- the input doesn't end: it gives a byte, which was taken, or the source fails
abbrev pub EndsNot : Seen → Seen → CertFault → Type 0
EndsNot old new cert_faults.End = (b : ℕ) × Consumes old.remaining new.remaining (b ∷ []) × (new.failures ≡ old.failures)
EndsNot old new cert_faults.Read = Keeps old.remaining new.remaining × (new.failures ≡ (old.failures + 1) % 2 ^ 64)
EndsNot old new fault = ⊥

-- reading the certificate gives this fault, or it was read and the input doesn't end after it
abbrev pub IsUnreadable : Seen → Seen → CertFault → Type 0
IsUnreadable old new fault = ReadsCert old new (Err fault) ⊎ ((between : Seen) × (cert : CertRecord) × IsRead old between cert × EndsNot between new fault)

-- the result of reading the last certificate
abbrev pub ReadsLast : Seen → Seen → Result Certificate CertFault → Type 0
ReadsLast old new (Ok certificate) = IsLast old new certificate
ReadsLast old new (Err fault) = IsUnreadable old new fault

-- ---- the run and the certificate

-- the rest of the input was the text of a run in which each member has a log, and then that of a certificate, and all of it
-- was read
pub record IsWholePair (old new : Seen) (run : RunRecord) (cert : CertRecord) : Type 0 where
  pub is : IsRunOf run
  pub logged : EachHasLog run.logs (all_members run.logs)
  pub certificate : IsCertificateOf cert
  pub text : IfSome old.remaining (λ bytes. bytes ≡ run_text run ++ cert_text cert)
  pub taken : Consumes old.remaining new.remaining (run_text run ++ cert_text cert)
  pub failures : new.failures ≡ old.failures

-- a run was read, but no certificate after it
abbrev pub LacksCertificate : Seen → Seen → CertFault → Type 0
LacksCertificate old new fault = (between : Seen) × (run : Run) × FitsRun old between run × IsUnreadable between new fault

-- the outcome, with its report: accepted, with what is pending and waiting, or the first fault that the audit of the
-- run lists
abbrev pub IsReported : RunRecord → CertRecord → Held → Held → Outcome → Type 0
IsReported run cert was is outcomes.Yes = IsAcceptable run.logs cert.lines × ((accepted : Accepted) × ListsOpen run.logs accepted × Wrote was is (accepted_text run.version accepted.pending.items accepted.waiting.items))
IsReported run cert was is outcomes.No = Certified run.logs cert.lines × ((fault : Fault) × IsFirstFault run.logs fault × Wrote was is (no_text run.version (fault ∷ [])))
IsReported run cert was is outcomes.Made = ⊥

-- a run and a certificate were read, and the checker's report of them and nothing else was written
pub record IsChecked (old new : Seen) (was is : Held) (outcome : Outcome) : Type 0 where
  pub run : RunRecord
  pub cert : CertRecord
  pub whole : IsWholePair old new run cert
  pub report : IsReported run cert was is outcome

-- the certificate does not certify the run
abbrev pub IsOfCertificate : CheckFault → Type 0
IsOfCertificate (check_faults.Broken fault) = ⊥
IsOfCertificate check_faults.Memory = ⊥
IsOfCertificate fault = Unit {0}

-- this is the first reason why the certificate does not certify the run
pub record IsRefusedFor (old new : Seen) (fault : CheckFault) : Type 0 where
  pub run : RunRecord
  pub cert : CertRecord
  pub whole : IsWholePair old new run cert
  pub reason : Checks run.logs cert.lines (Err fault)
  pub of_certificate : IsOfCertificate fault

-- the report was written; or nothing was, because the input was refused or failed, or memory was refused; or the sink failed
-- in this call, after a whole run and its certificate
abbrev pub ChecksText : Seen → Seen → Held → Held → Result Outcome VerdictFault → Type 0
ChecksText old new was is (Ok outcome) = IsChecked old new was is outcome
ChecksText old new was is (Err (faults.Run fault)) = (is ≡ was) × (fault ≢ run_faults.Memory) × ReadsRun old new (Err fault)
ChecksText old new was is (Err (faults.Cert fault)) = (is ≡ was) × (fault ≢ cert_faults.Memory) × LacksCertificate old new fault
ChecksText old new was is (Err (faults.Refused fault)) = (is ≡ was) × IsRefusedFor old new fault
ChecksText old new was is (Err faults.Memory) = (is ≡ was) × (new.failures ≡ old.failures)
ChecksText old new was is (Err faults.Write) = (is.failures ≡ (was.failures + 1) % 2 ^ 64) × ((run : RunRecord) × (cert : CertRecord) × IsWholePair old new run cert)
