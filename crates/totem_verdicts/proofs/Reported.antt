-- A run and a certificate after it, reports that were not written, and explanations of a no.
use Rattle.totem_evs.proofs.Common.{Consumes, Seen, Version, RunRecord, run_text, FitsRun, No}
use Rattle.totem_certificate.proofs.Common.{CertRecord, cert_text}
use Rattle.std.proofs.Common.{◌≡◌, inl, inr, ℕ, List, ◌++◌, Option, Some, None, Result, Ok, Err, map, refl, sym, ap, ◌∙◌, IfSome, append_assoc}
use Rattle.totem_names.specs.Writing.{Held}
use Rattle.totem_evs.specs.declared.fault.Fault.{Fault}
use Rattle.totem_evs.specs.declared.run.Run.{Run}
use Rattle.totem_evs.specs.declared.writing.WriteFault.{WriteFault}
use Rattle.totem_evs.specs.declared.writing.WriteFault.TheVariants as write_faults
use Rattle.totem_evs.specs.WriteRun.{WritesText}
use Rattle.totem_certificate.specs.declared.cert_fault.CertFault.{CertFault}
use Rattle.totem_certificate.specs.declared.cert_fault.CertFault.TheVariants as cert_faults
use Rattle.totem_verdicts.specs.VerdictFaults.{cert_verdict_fault, write_verdict_fault}
use Rattle.totem_verdicts.specs.declared.report.Form.{Form}
use Rattle.totem_verdicts.specs.declared.explain_stream.Explanation.TheVariants.{Words}
use Rattle.totem_verdicts.specs.AuditIo.{IsWhole, Reports}
use Rattle.totem_explain.specs.declared.no.ExplainedNo.{ExplainedNo}
use Rattle.totem_verdicts.specs.ExplainIo.{WritesExplanation, explained_no_text}
use Rattle.totem_verdicts.specs.CheckIo.{IsLast, IsWholePair, IsUnreadable, ChecksText}

both_texts : (a b : Option (List ℕ)) (x y : List ℕ) → Consumes a b x → IfSome b (λ bytes. bytes ≡ y) → IfSome a (λ bytes. bytes ≡ x ++ y)
both_texts None b x y p q = tt
both_texts (Some s) None x y p q = absurd p
both_texts (Some s) (Some t) x y p q = p ∙ ap (λ (ws : List ℕ). x ++ ws) q

both_taken : (a b c : Option (List ℕ)) (x y : List ℕ) → Consumes a b x → Consumes b c y → Consumes a c (x ++ y)
both_taken None b c x y p q = tt
both_taken (Some s) None c x y p q = absurd p
both_taken (Some s) (Some t) None x y p q = absurd q
both_taken (Some s) (Some t) (Some u) x y p q = p ∙ ap (λ (ws : List ℕ). x ++ ws) q ∙ sym (append_assoc x y u)

-- a run was read, and then a certificate to the end
pub whole_pair : (a b c : Seen) (run : Run) (cert : CertRecord) → FitsRun a b run → IsLast b c cert → IsWholePair a c run cert
whole_pair a b c run cert fits last = record {
  is = fits.0.is;
  logged = fits.1;
  certificate = last.is;
  text = both_texts a.remaining b.remaining (run_text run) (cert_text cert) fits.0.text last.text;
  taken = both_taken a.remaining b.remaining c.remaining (run_text run) (cert_text cert) fits.0.text last.taken;
  failures = last.failures ∙ fits.0.taken.failures;
}

-- after the run no certificate was read
pub certificate_failed : (a b c : Seen) (was : Held) (run : Run) (e : CertFault) → FitsRun a b run → IsUnreadable b c e → ChecksText a c was was (Err (cert_verdict_fault e))
certificate_failed a b c was run cert_faults.Memory fits (inl h) = (refl, h ∙ fits.0.taken.failures)
certificate_failed a b c was run cert_faults.Memory fits (inr (between, lines, is, ends)) = absurd ends
certificate_failed a b c was run cert_faults.Header fits h = (refl, λ same. cc, (b, run, fits, h))
certificate_failed a b c was run cert_faults.Word fits h = (refl, λ same. cc, (b, run, fits, h))
certificate_failed a b c was run cert_faults.Number fits h = (refl, λ same. cc, (b, run, fits, h))
certificate_failed a b c was run cert_faults.Order fits h = (refl, λ same. cc, (b, run, fits, h))
certificate_failed a b c was run cert_faults.Truncated fits h = (refl, λ same. cc, (b, run, fits, h))
certificate_failed a b c was run cert_faults.TooMany fits h = (refl, λ same. cc, (b, run, fits, h))
certificate_failed a b c was run cert_faults.End fits h = (refl, λ same. cc, (b, run, fits, h))
certificate_failed a b c was run cert_faults.Read fits h = (refl, λ same. cc, (b, run, fits, h))

-- the report was not written
pub report_failed : (a c : Seen) (was is : Held) (run : RunRecord) (cert : CertRecord) (text : List ℕ) (e : WriteFault)
    → IsWholePair a c run cert → WritesText {A = Unit {0}} was is (Err e) text → ChecksText a c was is (Err (write_verdict_fault e))
report_failed a c was is run cert text write_faults.Memory whole h = (h, whole.failures)
report_failed a c was is run cert text write_faults.Write whole h = (h, (run, cert, whole))

pub audit_failed : (form : Form) (a c : Seen) (was is : Held) (run : RunRecord) (text : List ℕ) (e : WriteFault)
    → IsWhole a c run → WritesText {A = Unit {0}} was is (Err e) text → Reports form a c was is (Err (write_verdict_fault e))
audit_failed form a c was is run text write_faults.Memory whole h = (h, whole.failures)
audit_failed form a c was is run text write_faults.Write whole h = (h, (run, whole))

-- the explanation of a no was written, or was not
pub no_explained : {A : Type 0} (columns : ℕ) (version : Version) (was is : Held) (r : Result A WriteFault) (words : ExplainedNo) (faults : List Fault)
    → map (λ one. one.fault) words.faults.items ≡ faults → WritesText was is r (explained_no_text version words) → WritesExplanation (Words columns) version was is r (No faults)
no_explained columns version was is (Ok a) words faults same wrote = (explained_no_text version words, (words, same, refl), wrote)
no_explained columns version was is (Err write_faults.Memory) words faults same wrote = wrote
no_explained columns version was is (Err write_faults.Write) words faults same wrote = wrote
