-- The one spelling of a certificate (docs/SPECIFICATIONS.md, "Certificate text"). The spelling of lines takes the
-- spelling of processes as a parameter.
use Rattle.std.specs.Prelude.{ℕ, List, [], ◌∷◌, ◌++◌, codes, decimal}
use Rattle.std.specs.List.{flat_map}
use Rattle.totem_evs.specs.Certificates.{Numbering}
use Rattle.totem_names.specs.declared.version.Version.{Version}
use Rattle.totem_names.specs.Processes.{process_text}
use Rattle.totem_evs.specs.RunText.{line, version_digit}
use Rattle.totem_certificate.specs.CertRecord.{CertRecord}

-- numbers, a space before each
abbrev pub numbers_text : List ℕ → List ℕ
numbers_text numbers = flat_map (λ n. codes " " ++ decimal n) numbers

-- a log's process, and the numbers of its entries
abbrev pub line_text : (ℕ → List ℕ) → Numbering → List ℕ
line_text spell l = line (codes "pos " ++ spell l.proc ++ numbers_text l.numbers)

-- the first line of a certificate
abbrev pub header_text : Version → List ℕ
header_text version = line (codes "totem-cert " ++ version_digit version ∷ [])

-- a certificate: the header, a line for each log, and the last line
abbrev pub cert_text : CertRecord → List ℕ
cert_text cert = header_text cert.version ++ flat_map (line_text (process_text cert.version)) cert.lines ++ line (codes "end")
