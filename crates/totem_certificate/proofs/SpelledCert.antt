-- What is read is spelled so, and what is spelled so is read: a certificate.
use Rattle.totem_certificate.proofs.Common.{◌==◌, codes, ◌≡◌, ℕ, zero, suc, ◌<◌, List, [], ◌∷◌, ◌++◌, Option, Some, None, Ok, Err, false, refl, sym, ◌∙◌, ap, subst, append_assoc, arith, flat_map, nat_tests, Version, TextFault, Parsed, ◌>>=◌, process_text, IsProcessIn, after, parsed_is, Numbering, line, IsClear, head_text, IsHead, begin_parts, head_is, head_again, header_is, header_again, CertRecord, IsLineIn, IsCertificateOf, IsOfText, numbers_text, line_text, header_text, cert_text}
use Rattle.totem_evs.specs.Heads.{records_at, HasVersion, head_at, by_head, header_at}
use Rattle.totem_certificate.specs.CertGrammar.{cert_words, numbers_at, lines_at, cert_at, numbering}
use Rattle.totem_certificate.proofs.LinesFromLeft.{NumbersFrom, are_numbers, numbers_from, LinesFrom, is_certificate, certificate_from}
use Rattle.totem_certificate.proofs.SpelledNumbers.{numbers_is, numbers_tail}

-- ---- the words of a certificate's text

pub cert_clear : IsClear cert_words
cert_clear = record { letter = refl; behind = refl }

pub of_text : (version : Version) → HasVersion cert_words version → IsOfText version
of_text version h = grind arith

pub has_version : (version : Version) → IsOfText version → HasVersion cert_words version
has_version version h = grind arith

-- ---- lines

abbrev pub lines_text : Version → List Numbering → List ℕ → List ℕ
lines_text version lines rest = flat_map (line_text (process_text version)) lines ++ (line (codes "end") ++ rest)

regrouped : (p ns rest : List ℕ) → (codes "pos " ++ p ++ ns ++ 10 ∷ []) ++ rest ≡ codes "pos " ++ (p ++ (ns ++ 10 ∷ rest))
regrouped p ns rest = simp append_assoc

-- a line, by the space before its numbers
pub line_parts : (version : Version) (l : Numbering) (bytes rest : List ℕ) → 32 ∷ bytes ≡ numbers_text l.numbers ++ 10 ∷ rest → line_text (process_text version) l ++ rest ≡ head_text cert_words version (Some l.proc) ++ bytes
line_parts version l bytes rest e = regrouped (process_text version l.proc) (numbers_text l.numbers) rest ∙ ap (λ (t : List ℕ). codes "pos " ++ (process_text version l.proc ++ t)) (sym e) ∙ sym (begin_parts cert_words version l.proc bytes)

pub lines_parts : (version : Version) (l : Numbering) (lines : List Numbering) (bytes rest : List ℕ) → 32 ∷ bytes ≡ numbers_text l.numbers ++ 10 ∷ lines_text version lines rest → lines_text version (l ∷ lines) rest ≡ head_text cert_words version (Some l.proc) ++ bytes
lines_parts version l lines bytes rest e = append_assoc (line_text (process_text version) l) (flat_map (line_text (process_text version)) lines) (line (codes "end") ++ rest) ∙ line_parts version l bytes (lines_text version lines rest) e

pub made_line : (version : Version) (p : ℕ) (ns : List ℕ) → IsProcessIn version p → NumbersFrom 1000000 ns → IsLineIn version (numbering p ns)
made_line version p ns fits h = record { process = fits; numbers = are_numbers ns h }

pub lines_is : (version : Version) (room last : ℕ) (lines : List Numbering) (bytes rest : List ℕ) → lines_at version room last bytes ≡ Ok (lines, rest) → LinesFrom version room last lines × (bytes ≡ lines_text version lines rest)
unfolding records_at
lines_is version zero last lines bytes rest e = absurd cc
lines_is version (suc room) last lines bytes rest e =
    after (head_at cert_words version (room == 0) last bytes) (λ head. by_head head.0 (Ok ([], head.1)) (λ p. numbers_at 1000000 head.1 >>= λ numbers. lines_at version room p numbers.1 >>= λ others. Ok (numbering p numbers.0 ∷ others.0, others.1))) (lines, rest) e (λ head mid e1 more.
    go head mid e1 more (λ p lines' bytes' left k. lines_is version room p lines' bytes' left k))
  where
    go : (head : Option ℕ) (mid : List ℕ) → head_at cert_words version (room == 0) last bytes ≡ Ok (head, mid)
        → by_head {Y = Parsed (List Numbering)} head (Ok ([], mid)) (λ p. numbers_at 1000000 mid >>= λ numbers. lines_at version room p numbers.1 >>= λ others. Ok (numbering p numbers.0 ∷ others.0, others.1)) ≡ Ok (lines, rest)
        → ((p : ℕ) (lines' : List Numbering) (bytes' left : List ℕ) → lines_at version room p bytes' ≡ Ok (lines', left) → LinesFrom version room p lines' × (bytes' ≡ lines_text version lines' left))
        → LinesFrom version (suc room) last lines × (bytes ≡ lines_text version lines rest)
    go None mid e1 more again =
        let found = head_is cert_words version (room == 0) last None bytes mid e1 in
        let q = parsed_is [] lines mid rest more in
        let whole : LinesFrom version (suc room) last [] × (bytes ≡ lines_text version [] mid) = (record { few = omega arith; rises = tt }, found.1) in
        rw (← q.0, ← q.1) whole
    go (Some p) mid e1 more again =
        let found = head_is cert_words version (room == 0) last (Some p) bytes mid e1 in
        after (numbers_at 1000000 mid) (λ numbers. lines_at version room p numbers.1 >>= λ others. Ok (numbering p numbers.0 ∷ others.0, others.1)) (lines, rest) more (λ ns b2 e2 m2.
        after (lines_at version room p b2) (λ others. Ok (numbering p ns ∷ others.0, others.1)) (lines, rest) m2 (λ others left e3 made.
        let q = parsed_is (numbering p ns ∷ others) lines left rest made in
        let one = numbers_is 1000000 ns mid b2 e2 in
        let tail = again p others b2 left e3 in
        let is : LinesFrom version (suc room) last (numbering p ns ∷ others) = record {
          few = omega (arith, tail.0.few);
          rises = (found.0.1, made_line version p ns found.0.2 one.0, tail.0.rises);
        } in
        let text : bytes ≡ lines_text version (numbering p ns ∷ others) left =
        found.1 ∙ sym (lines_parts version (numbering p ns) others mid left (one.1 ∙ ap (λ (t : List ℕ). numbers_text ns ++ 10 ∷ t) tail.1)) in
        rw (← q.0, ← q.1) (is, text)))

pub lines_again : (version : Version) (room last : ℕ) (lines : List Numbering) (rest : List ℕ) → LinesFrom version room last lines → lines_at version room last (lines_text version lines rest) ≡ Ok (lines, rest)
unfolding records_at
lines_again version zero last lines rest is = absurd (omega (arith, is.few))
lines_again version (suc room) last [] rest is = rw (head_again cert_words version (room == 0) last None rest cert_clear tt) refl
lines_again version (suc room) last (l ∷ lines) rest is =
    let more : (room == 0) ≡ false = (let k : 0 < room = omega (arith, is.few) in grind (arith, nat_tests)) in
    let head : IsHead version (room == 0) last (Some l.proc) = (more, is.rises.0, is.rises.1.process) in
    let others : LinesFrom version room l.proc lines = record { few = omega (arith, is.few); rises = is.rises.2 } in
    let t = numbers_tail l.numbers (lines_text version lines rest) (numbers_from l.numbers is.rises.1.numbers) in
    rw (lines_parts version l lines t.0 rest (sym t.1), head_again cert_words version (room == 0) last (Some l.proc) t.0 cert_clear head, t.2, lines_again version room l.proc lines rest others) refl

-- ---- certificates

pub cert_parts : (cert : CertRecord) (rest : List ℕ) → cert_text cert ++ rest ≡ header_text cert.version ++ lines_text cert.version cert.lines rest
cert_parts cert rest = grind (arith, append_assoc)

-- what is read is spelled so
pub cert_is : (cert : CertRecord) (bytes rest : List ℕ) → cert_at bytes ≡ Ok (cert, rest) → IsCertificateOf cert × (bytes ≡ cert_text cert ++ rest)
unfolding cert_at
cert_is cert bytes rest e =
    after (header_at cert_words bytes) (λ v. lines_at v.0 33 0 v.1 >>= λ lines. Ok (record { version = v.0; lines = lines.0 }, lines.1)) (cert, rest) e (λ v mid e1 more.
    after (lines_at v 33 0 mid) (λ lines. Ok (record { version = v; lines = lines.0 }, lines.1)) (cert, rest) more (λ lines left e2 made.
    let new : CertRecord = record { version = v; lines = lines } in
    let q = parsed_is new cert left rest made in
    let t1 = header_is cert_words v bytes mid e1 in
    let found = lines_is v 33 0 lines mid left e2 in
    let whole : IsCertificateOf new × (bytes ≡ cert_text new ++ left) =
    (record { version = of_text v t1.0; lines = is_certificate v lines found.0 }, t1.1 ∙ ap (λ (t : List ℕ). header_text v ++ t) found.1 ∙ sym (cert_parts new left)) in
    subst (λ (c : CertRecord). IsCertificateOf c × (bytes ≡ cert_text c ++ rest)) q.0 (rw (← q.1) whole)))

-- what is spelled so is read
pub cert_again : (cert : CertRecord) (rest : List ℕ) → IsCertificateOf cert → cert_at (cert_text cert ++ rest) ≡ Ok (cert, rest)
unfolding cert_at
cert_again cert rest is =
    rw (cert_parts cert rest) (rw (header_again cert_words cert.version (lines_text cert.version cert.lines rest) (has_version cert.version is.version)) (rw (lines_again cert.version 33 0 cert.lines rest (certificate_from cert.version cert.lines is.lines)) refl))

-- ---- certificates and bytes

-- two certificates whose texts begin the same bytes are one
pub one_cert : (a b : CertRecord) (more rest : List ℕ) → IsCertificateOf a → IsCertificateOf b → cert_text a ++ more ≡ cert_text b ++ rest → (a ≡ b) × (more ≡ rest)
one_cert a b more rest is-a is-b e = parsed_is a b more rest (sym (cert_again a more is-a) ∙ ap cert_at e ∙ cert_again b rest is-b)

-- where there is a fault no certificate begins
pub no_cert : (bytes : List ℕ) (fault : TextFault) → cert_at bytes ≡ Err fault → (cert : CertRecord) (rest : List ℕ) → IsCertificateOf cert → bytes ≡ cert_text cert ++ rest → ⊥
no_cert bytes fault e cert rest is text = absurd (let ok = sym (cert_again cert rest is) ∙ ap cert_at (sym text) ∙ e in cc)
