-- The grammar of a certificate's text, from left to right, with the fault of the first byte that breaks a rule
-- (docs/SPECIFICATIONS.md, "Certificate text").
use Rattle.std.specs.Prelude.{ℕ, zero, suc, List, [], ◌∷◌, codes, Ok, Err, false, ◌==◌, if◌then◌else◌}
use Rattle.totem_names.specs.declared.fault.TextFault.TheVariants as faults
use Rattle.totem_names.specs.Sources.{Parsed, ◌>>=◌}
use Rattle.totem_names.specs.Numbers.{number_at}
use Rattle.totem_names.specs.declared.version.Version.{Version}
use Rattle.totem_evs.specs.Certificates.{Numbering}
use Rattle.totem_evs.specs.Heads.{Words, records_at, header_at}
use Rattle.totem_certificate.specs.CertRecord.{CertRecord}

-- numbers, and the line end after them; at most `room` of them
unfoldable pub numbers_at : ℕ → List ℕ → Parsed (List ℕ)
numbers_at zero bytes = Err faults.TooMany
numbers_at (suc room) bytes = do
  n ← number_at 4294967295 bytes
  if n.0.1 == 10 then Ok (n.0.0 ∷ [], n.1)
      else if n.0.1 == 32 then (numbers_at room n.1 >>= λ others. Ok (n.0.0 ∷ others.0, others.1))
      else Err faults.Word

-- the words of a certificate's text: `totem-cert`, in two versions, and `pos`, after whose process is the space before
-- the numbers of the line
abbrev pub cert_words : Words
cert_words = record { title = codes "totem-cert "; third = false; letter = 112; word = codes "os "; behind = 32 }

-- a line of this process
abbrev pub numbering : ℕ → List ℕ → Numbering
numbering p numbers = record { proc = p; numbers = numbers }

-- the further lines, fewer than `room`, and the last line
abbrev pub lines_at : Version → ℕ → ℕ → List ℕ → Parsed (List Numbering)
lines_at version room last bytes = records_at cert_words (λ version p. numbers_at 1000000) numbering version room last bytes

-- the text of a certificate
unfoldable pub cert_at : List ℕ → Parsed CertRecord
cert_at bytes = do
  v ← header_at cert_words bytes
  lines ← lines_at v.0 33 0 v.1
  Ok (record { version = v.0; lines = lines.0 }, lines.1)
