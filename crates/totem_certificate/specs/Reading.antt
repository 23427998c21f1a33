-- What the reader of certificates returns, and what it leaves unread (docs/SPECIFICATIONS.md, "Certificate text").
use Rattle.std.specs.Prelude.{◌≡◌, Result, Ok, Err}
use Rattle.std.specs.Io.KnownBytes.{Consumes}
use Rattle.totem_names.specs.declared.fault.TextFault.TheVariants as text
use Rattle.totem_names.specs.Sources.{Seen, Comes, Breaks, BreaksAt, Stops}
use Rattle.totem_certificate.specs.CertRecord.{CertRecord}
use Rattle.totem_certificate.specs.declared.certificate.Certificate.{Certificate}
use Rattle.totem_certificate.specs.declared.cert_fault.CertFault.{CertFault}
use Rattle.totem_certificate.specs.declared.cert_fault.CertFault.TheVariants as faults
use Rattle.totem_certificate.specs.Keeping.{IsCertificateOf}
use Rattle.totem_certificate.specs.CertText.{cert_text}
use Rattle.totem_certificate.specs.CertGrammar.{cert_at}

-- the bytes that were taken are the text of this certificate, and are read as it, whatever follows
pub record IsRead (old new : Seen) (cert : CertRecord) : Type 0 where
  pub is : IsCertificateOf cert
  pub taken : Comes old new cert_at (λ more. Ok (cert, more))
  pub text : Consumes old.remaining new.remaining (cert_text cert)

-- a certificate was read; the text is faulty as the grammar says, whatever follows the bytes that were taken, the last
-- of which is the first that breaks a rule; the text ended and was too short; the source failed in this call, after
-- bytes that begin a text; or memory was refused
abbrev pub ReadsCert : Seen → Seen → Result Certificate CertFault → Type 0
ReadsCert old new (Ok c) = IsRead old new c
ReadsCert old new (Err faults.Header) = BreaksAt old new cert_at text.Header
ReadsCert old new (Err faults.Word) = BreaksAt old new cert_at text.Word
ReadsCert old new (Err faults.Number) = BreaksAt old new cert_at text.Number
ReadsCert old new (Err faults.Order) = BreaksAt old new cert_at text.Order
ReadsCert old new (Err faults.Truncated) = Breaks old new cert_at text.Truncated
ReadsCert old new (Err faults.TooMany) = BreaksAt old new cert_at text.TooMany
ReadsCert old new (Err faults.End) = ⊥
ReadsCert old new (Err faults.Read) = Stops old new cert_at
ReadsCert old new (Err faults.Memory) = new.failures ≡ old.failures
