-- What the reader of certificates returns.
use Rattle.totem_certificate.proofs.Common.{◌≡◌, ℕ, List, [], ◌++◌, Ok, Err, refl, sym, ◌∙◌, subst, append-nil, Consumes, Version, Seen, Parsed, Comes, Reads, ◌>>=◌, begins, called, failed, breaks_at, Numbering, CertRecord, cert_text, IsCertificateOf, header_is}
use Rattle.totem_names.specs.declared.fault.ReadError.{ReadError}
use Rattle.totem_names.specs.declared.fault.ReadError.TheVariants as errors
use Rattle.totem_names.specs.declared.fault.TextFault.TheVariants as text
use Rattle.totem_certificate.specs.CertGrammar.{cert_words, lines_at, cert_at}
use Rattle.totem_evs.specs.Heads.{header_at}
use Rattle.totem_certificate.specs.CertFaults.{cert_fault}
use Rattle.totem_certificate.specs.Reading.{IsRead, ReadsCert}
use Rattle.totem_certificate.proofs.LinesFromLeft.{is_certificate}
use Rattle.totem_certificate.proofs.SpelledCert.{of_text, lines_is, cert_is}
use Rattle.totem_certificate.proofs.SteadyCert.{cert_empty}
use Rattle.totem_certificate.proofs.OwnFaults.{own_fault}

-- what was taken is the text of what was read
pub was_read : (old new : Seen) (cert : CertRecord) → Comes old new cert_at (λ more. Ok (cert, more)) → IsRead old new cert
was_read old new cert h =
    let found = cert_is cert (h.read ++ []) [] (h.left []) in
    let same : h.read ≡ cert_text cert = sym (append-nil h.read) ∙ found.1 ∙ append-nil (cert_text cert) in
    record { is = found.0; taken = h; text = subst (λ (read : List ℕ). Consumes old.remaining new.remaining read) same h.taken }

-- a reader's error, passed on
pub passed_on : (old new : Seen) (e : ReadError) → Reads {Y = CertRecord} old new (Err e) cert_at → ReadsCert old new (Err (cert_fault e))
passed_on old new errors.Memory h = h
passed_on old new errors.Read h = h
passed_on old new (errors.Text text.Header) h = breaks_at old new cert_at text.Header cert_empty refl h
passed_on old new (errors.Text text.Word) h = breaks_at old new cert_at text.Word cert_empty refl h
passed_on old new (errors.Text text.Number) h = breaks_at old new cert_at text.Number cert_empty refl h
passed_on old new (errors.Text text.Order) h = breaks_at old new cert_at text.Order cert_empty refl h
passed_on old new (errors.Text text.Members) h = absurd (own_fault h.read text.Members h.broken)
passed_on old new (errors.Text text.End) h = absurd (own_fault h.read text.End h.broken)
passed_on old new (errors.Text text.Truncated) h = h
passed_on old new (errors.Text text.TooMany) h = breaks_at old new cert_at text.TooMany cert_empty refl h

-- ---- the first line, and then the others

abbrev read_as : Version → List Numbering × List ℕ → Parsed CertRecord
read_as version lines = Ok (record { version = version; lines = lines.0 }, lines.1)

abbrev pub lines_after : Version → List ℕ → Parsed CertRecord
lines_after version bytes = lines_at version 33 0 bytes >>= read_as version

pub header_read : (a b : Seen) (version : Version) → Comes a b (header_at cert_words) (λ more. Ok (version, more)) → Comes a b cert_at (lines_after version)
unfolding cert_at
header_read a b version h = called a a b cert_at (header_at cert_words) (λ v. lines_after v.0 v.1) version (begins a cert_at) h

pub lines_failed : (a b c : Seen) (version : Version) (e : ReadError) → Comes a b cert_at (lines_after version) → Reads {Y = List Numbering} b c (Err e) (lines_at version 33 0) → Reads {Y = CertRecord} a c (Err e) cert_at
lines_failed a b c version e so_far h = failed a b c cert_at (lines_at version 33 0) (read_as version) e so_far h

pub lines_read : (a b c : Seen) (version : Version) (lines : List Numbering) → Comes a b cert_at (lines_after version) → Comes b c (lines_at version 33 0) (λ more. Ok (lines, more)) → Comes a c cert_at (λ more. Ok (record { version = version; lines = lines }, more))
lines_read a b c version lines so_far h = called a b c cert_at (lines_at version 33 0) (read_as version) lines so_far h

-- what was read is a certificate
pub is_read : (a b c d : Seen) (version : Version) (lines : List Numbering) → Comes a b (header_at cert_words) (λ more. Ok (version, more)) → Comes c d (lines_at version 33 0) (λ more. Ok (lines, more)) → IsCertificateOf (record { version = version; lines = lines })
is_read a b c d version lines first others = record {
  version = of_text version (header_is cert_words version (first.read ++ []) [] (first.left [])).0;
  lines = is_certificate version lines (lines_is version 33 0 lines (others.read ++ []) [] (others.left [])).0;
}
