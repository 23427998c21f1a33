-- Where the text of a certificate is too short, some text continues it.
use Rattle.totem_certificate.proofs.Common.{decimal, ◌==◌, ◌≡◌, ℕ, zero, suc, ◌<◌, inl, inr, List, [], ◌∷◌, ◌++◌, Option, Some, None, Ok, Err, false, cond, refl, sym, ◌∙◌, ap, append_assoc, arith, eqb-true, nat_tests, append-nil, Version, TextFault, Parsed, Follows, FirstBreak, is_short, ◌>>=◌, number_is, Numbering, head_text, IsHead, head_is, header_is, CertRecord, IsNumber, IsOfText, numbers_text, header_text, cert_text}
use Rattle.totem_names.specs.declared.fault.TextFault.TheVariants as faults
use Rattle.totem_names.specs.Numbers.{number_at}
use Rattle.totem_evs.specs.Heads.{records_at, head_at, by_head, header_at}
use Rattle.totem_evs.proofs.GoesOn.{Cut, Splits, ok_cut, fault_cut, test_cut, bind_cut, last_cut, number_cut}
use Rattle.totem_evs.proofs.HeadsGoOn.{IsLooseHead, HeadTo, head_cut, HeaderTo, header_cut}
use Rattle.totem_certificate.specs.CertGrammar.{cert_words, numbers_at, lines_at, cert_at, numbering}
use Rattle.totem_certificate.specs.CertFronts.{IsFront, IsLooseCertificate, IsLooseFront, IsFirstWrong}
use Rattle.totem_certificate.proofs.LinesFromLeft.{NumbersFrom, LooseLinesFrom, line_loosely, is_loose_certificate}
use Rattle.totem_certificate.proofs.SpelledNumbers.{numbers_is}
use Rattle.totem_certificate.proofs.SpelledCert.{of_text, lines_text, lines_parts, made_line, cert_parts, no_cert}
use Rattle.totem_certificate.proofs.SteadyCert.{cert_steady, cert_first_break}

-- ---- numbers

abbrev NumberTo : List ℕ → Type 0
NumberTo t = (n : ℕ) × IsNumber n × (t ≡ decimal n)

one_number : IsNumber 1
one_number = record { positive = omega arith; small = omega arith }

first_cut : (bytes : List ℕ) → Cut (number_at 4294967295 bytes) NumberTo bytes
first_cut bytes = record {
  goes = λ e. elim (number_cut 4294967295 bytes (omega arith) (omega arith) e) [
    | inl none ↦ (decimal 1, (1, one_number, ap (λ (t : List ℕ). t ++ decimal 1) none))
    | inr x ↦ ([], (x.0, x.1, append-nil bytes ∙ x.2))
  ];
}

-- numbers after a space, up to the line end
abbrev pub NumbersTo : ℕ → List ℕ → Type 0
NumbersTo room t = (ns : List ℕ) × NumbersFrom room ns × (32 ∷ t ≡ numbers_text ns ++ 10 ∷ [])

one_number_text : (n : ℕ) → 32 ∷ (decimal n ++ 10 ∷ []) ≡ numbers_text (n ∷ []) ++ 10 ∷ []
one_number_text n = ap (λ (t : List ℕ). 32 ∷ (t ++ 10 ∷ [])) (sym (append-nil (decimal n)))

numbers_parts : (n : ℕ) (ns t : List ℕ) → 32 ∷ t ≡ numbers_text ns ++ 10 ∷ [] → 32 ∷ ((decimal n ++ 32 ∷ []) ++ t) ≡ numbers_text (n ∷ ns) ++ 10 ∷ []
numbers_parts n ns t e = ap (λ (k : List ℕ). 32 ∷ k) (append_assoc (decimal n) (32 ∷ []) t ∙ ap (λ (k : List ℕ). decimal n ++ k) e ∙ sym (append_assoc (decimal n) (numbers_text ns) (10 ∷ [])))

numbers_cut : (room : ℕ) (bytes : List ℕ) → Cut (numbers_at room bytes) (NumbersTo room) bytes
unfolding numbers_at
numbers_cut zero bytes = fault_cut faults.TooMany (NumbersTo zero) bytes refl
numbers_cut (suc room) bytes =
    bind_cut (number_at 4294967295 bytes) (λ n. cond (n.0.1 == 10) (Ok (n.0.0 ∷ [], n.1)) (cond (n.0.1 == 32) (numbers_at room n.1 >>= λ others. Ok (n.0.0 ∷ others.0, others.1)) (Err faults.Word))) NumberTo (NumbersTo (suc room)) bytes (first_cut bytes)
    (λ t x. (10 ∷ [], (x.0 ∷ [], record { some = omega arith; few = omega arith; each = (x.1, tt) }, ap (λ (k : List ℕ). 32 ∷ (k ++ 10 ∷ [])) x.2 ∙ one_number_text x.0)))
    (λ n rest e.
    let x = number_is 4294967295 n.0 n.1 bytes rest (omega arith) (omega arith) e in
    let Is : List ℕ → Type 0 = λ u. NumbersTo (suc room) ((decimal n.0 ++ n.1 ∷ []) ++ u) in
    record {
      text = decimal n.0 ++ n.1 ∷ [];
      whole = x.spelled ∙ sym (append_assoc (decimal n.0) (n.1 ∷ []) rest);
      next = test_cut (n.1 == 10) (Ok (n.0 ∷ [], rest)) (cond (n.1 == 32) (numbers_at room rest >>= λ others. Ok (n.0 ∷ others.0, others.1)) (Err faults.Word)) Is rest
          (λ h. ok_cut (n.0 ∷ [], rest) Is rest)
          (λ h. test_cut (n.1 == 32) (numbers_at room rest >>= λ others. Ok (n.0 ∷ others.0, others.1)) (Err faults.Word) Is rest
          (λ h. let same : n.1 ≡ 32 = eqb-true n.1 32 h in
          last_cut (numbers_at room rest) (λ others. (n.0 ∷ others.0, others.1)) (NumbersTo room) Is rest (numbers_cut room rest)
          (λ t m. (n.0 ∷ m.0, record { some = omega arith; few = omega (arith, m.1.few); each = (record { positive = x.positive; small = x.small }, m.1.each) }, ap (λ (b : ℕ). 32 ∷ ((decimal n.0 ++ b ∷ []) ++ t)) same ∙ numbers_parts n.0 m.0 t m.2)))
          (λ h. fault_cut faults.Word Is rest refl));
    })

-- ---- lines

abbrev pub LinesTo : Version → ℕ → ℕ → List ℕ → Type 0
LinesTo version room last t = (lines : List Numbering) × LooseLinesFrom version room last lines × (t ≡ lines_text version lines [])

not_zero : (n : ℕ) → (n == 0) ≡ false → 0 < n
not_zero n h = grind (arith, nat_tests)

joined : (version : Version) (p : ℕ) (ns : List ℕ) (lines : List Numbering) (t u : List ℕ) → 32 ∷ t ≡ numbers_text ns ++ 10 ∷ [] → u ≡ lines_text version lines [] → head_text cert_words version (Some p) ++ (t ++ u) ≡ lines_text version (numbering p ns ∷ lines) []
joined version p ns lines t u e f =
    sym (lines_parts version (numbering p ns) lines (t ++ u) [] (ap (λ (k : List ℕ). k ++ u) e ∙ append_assoc (numbers_text ns) (10 ∷ []) u ∙ ap (λ (k : List ℕ). numbers_text ns ++ 10 ∷ k) f))

one_of : NumbersFrom 1000000 (1 ∷ [])
one_of = record { some = omega arith; few = omega arith; each = (one_number, tt) }

-- the last line, or a line before its numbers
lines_from : (version : Version) (room last : ℕ) (head : Option ℕ) (t : List ℕ) → IsLooseHead version (room == 0) head → t ≡ head_text cert_words version head → (u : List ℕ) × LinesTo version (suc room) last (t ++ u)
lines_from version room last None t is e = ([], ([], record { few = omega arith; rises = tt }, ap (λ (k : List ℕ). k ++ []) e))
lines_from version room last (Some p) t is e =
    let u = (decimal 1 ++ 10 ∷ []) ++ lines_text version [] [] in
    let few : 0 < room = not_zero room is.0 in (
      u,
      (
        numbering p (1 ∷ []) ∷ [],
        record { few = omega (arith, few); rises = made_line version p (1 ∷ []) is.1 one_of },
        ap (λ (k : List ℕ). k ++ u) e ∙ joined version p (1 ∷ []) [] (decimal 1 ++ 10 ∷ []) (lines_text version [] []) (one_number_text 1) refl,
      ),
    )

lines_step : (version : Version) (room last : ℕ) (head : Option ℕ) (bytes rest : List ℕ) → IsHead version (room == 0) last head × (bytes ≡ head_text cert_words version head ++ rest)
    → ((p : ℕ) (rest2 : List ℕ) → Cut (lines_at version room p rest2) (LinesTo version room p) rest2)
    → Splits (by_head {Y = Parsed (List Numbering)} head (Ok ([], rest)) (λ p. numbers_at 1000000 rest >>= λ numbers. lines_at version room p numbers.1 >>= λ others. Ok (numbering p numbers.0 ∷ others.0, others.1))) (LinesTo version (suc room) last) bytes rest
lines_step version room last None bytes rest found again = record { text = head_text cert_words version None; whole = found.1; next = ok_cut ([], rest) (λ u. LinesTo version (suc room) last (head_text cert_words version None ++ u)) rest }
lines_step version room last (Some p) bytes rest found again =
    let few : 0 < room = not_zero room found.0.0 in
    record {
      text = head_text cert_words version (Some p);
      whole = found.1;
      next = bind_cut (numbers_at 1000000 rest) (λ numbers. lines_at version room p numbers.1 >>= λ others. Ok (numbering p numbers.0 ∷ others.0, others.1)) (NumbersTo 1000000) Is rest (numbers_cut 1000000 rest)
          (λ t x. (lines_text version [] [], (numbering p x.0 ∷ [], record { few = omega (arith, few); rises = made_line version p x.0 found.0.2 x.1 }, joined version p x.0 [] t (lines_text version [] []) x.2 refl)))
          (λ ns rest2 e2.
          let one = numbers_is 1000000 ns rest rest2 e2 in
          let t = tail_of ns one.0 in
          record {
            text = t.0;
            whole = tails rest (t.0 ++ rest2) (one.1 ∙ sym (append_assoc (numbers_text ns) (10 ∷ []) rest2) ∙ ap (λ (k : List ℕ). k ++ rest2) (sym t.1));
            next = last_cut (lines_at version room p rest2) (λ others. (numbering p ns ∷ others.0, others.1)) (LinesTo version room p) (λ u. Is (t.0 ++ u)) rest2 (again p rest2)
                (λ u x. (numbering p ns ∷ x.0, record { few = omega (arith, x.1.few); rises = line_loosely version last (numbering p ns) x.0 found.0.1 (made_line version p ns found.0.2 one.0) x.1.rises }, joined version p ns x.0 t.0 u t.1 x.2));
          });
    }
  where
    Is : List ℕ → Type 0
    Is u = LinesTo version (suc room) last (head_text cert_words version (Some p) ++ u)

    tails : (xs ys : List ℕ) → 32 ∷ xs ≡ 32 ∷ ys → xs ≡ ys
    tails xs ys e = cc

    tail_of : (ns : List ℕ) → NumbersFrom 1000000 ns → (t : List ℕ) × (32 ∷ t ≡ numbers_text ns ++ 10 ∷ [])
    tail_of [] h = absurd (omega (arith, h.some))
    tail_of (n ∷ ns) h = ((decimal n ++ numbers_text ns) ++ 10 ∷ [], refl)

lines_cut : (version : Version) (room last : ℕ) (bytes : List ℕ) → Cut (lines_at version room last bytes) (LinesTo version room last) bytes
unfolding records_at
lines_cut version zero last bytes = fault_cut faults.TooMany (LinesTo version zero last) bytes refl
lines_cut version (suc room) last bytes =
    bind_cut (head_at cert_words version (room == 0) last bytes) (λ head. by_head head.0 (Ok ([], head.1)) (λ p. numbers_at 1000000 head.1 >>= λ numbers. lines_at version room p numbers.1 >>= λ others. Ok (numbering p numbers.0 ∷ others.0, others.1))) (HeadTo cert_words version (room == 0)) (LinesTo version (suc room) last) bytes (head_cut cert_words version (room == 0) last bytes)
    (λ t x. lines_from version room last x.0 t x.1 x.2)
    (λ head rest e. lines_step version room last head bytes rest (head_is cert_words version (room == 0) last head bytes rest e) (λ p rest2. lines_cut version room p rest2))

-- ---- certificates

abbrev pub CertTo : List ℕ → Type 0
CertTo t = (cert : CertRecord) × IsOfText cert.version × IsLooseCertificate cert.version cert.lines × (cert_text cert ≡ t)

cert_of : (version : Version) (lines : List Numbering) (t : List ℕ) → IsOfText version → LooseLinesFrom version 33 0 lines → t ≡ lines_text version lines [] → CertTo (header_text version ++ t)
cert_of version lines t of is e =
    let cert : CertRecord = record { version = version; lines = lines } in
    (cert, of, is_loose_certificate version lines is, sym (append-nil (cert_text cert)) ∙ cert_parts cert [] ∙ ap (λ (k : List ℕ). header_text version ++ k) (sym e))

cert_cut : (bytes : List ℕ) → Cut (cert_at bytes) CertTo bytes
unfolding cert_at
cert_cut bytes =
    bind_cut (header_at cert_words bytes) (λ v. lines_at v.0 33 0 v.1 >>= λ lines. Ok (record { version = v.0; lines = lines.0 }, lines.1)) (HeaderTo cert_words) CertTo bytes (header_cut cert_words bytes)
    (λ t x. (lines_text x.0 [] [], rw x.2 (cert_of x.0 [] (lines_text x.0 [] []) (of_text x.0 x.1) (record { few = omega arith; rises = tt }) refl)))
    (λ v rest e.
    let y = header_is cert_words v bytes rest e in
    record {
      text = header_text v;
      whole = y.1;
      next = last_cut {B = CertRecord} (lines_at v 33 0 rest) (λ lines. (record { version = v; lines = lines.0 }, lines.1)) (LinesTo v 33 0) (λ u. CertTo (header_text v ++ u)) rest (lines_cut v 33 0 rest) (λ t x. cert_of v x.0 t (of_text v y.0) x.1 x.2);
    })

pub cut_front : (bytes : List ℕ) → cert_at bytes ≡ Err faults.Truncated → IsLooseFront bytes
cut_front bytes e = let found = (cert_cut bytes).goes e in (found.1.0, found.0, found.1.1, found.1.2, found.1.3)

-- where the grammar finds a fault, no certificate's text begins with the bytes
no_front : (bytes : List ℕ) (fault : TextFault) → cert_at bytes ≡ Err fault → is_short fault ≡ false → IsFront bytes → ⊥
no_front bytes fault e long h =
    let stays : Follows h.1 (cert_at bytes) (cert_at (bytes ++ h.1)) = cert_steady.stays bytes h.1 in
    no_cert (bytes ++ h.1) fault ((rw e at stays) long) h.0 [] h.2 (sym h.3 ∙ sym (append-nil (cert_text h.0)))

pub first_wrong : (bytes : List ℕ) (fault : TextFault) → cert_at bytes ≡ Err fault → is_short fault ≡ false → (break : FirstBreak cert_at bytes fault) × IsFirstWrong break.front break.byte
first_wrong bytes fault e long =
    let b = cert_first_break bytes fault long e in
    (b, record { before = cut_front b.front b.before; wrong = no_front (b.front ++ b.byte ∷ []) fault b.at long })
