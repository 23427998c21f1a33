-- A fault of a certificate's text is that of its first line or of one of its lines.
use Rattle.totem_certificate.proofs.Common.{◌==◌, codes, decimal, ◌↔◌, ◌≡◌, ◌≢◌, ℕ, zero, suc, ◌+◌, ◌-◌, ◌<◌, ◌⊎◌, inl, inr, List, [], ◌∷◌, ◌++◌, length, Bool, false, cond, Option, Some, None, Ok, Err, refl, sym, ap, subst, ◌∙◌, append_assoc, arith, flat_map, AllByRecursion, nat_tests, All-from_recursion, recursion_from_All, Version, TextFault, Parsed, ◌>>=◌, process_text, number_is, number_again, Numbering, full_is, head_text, IsHead, begin_parts, head_is, head_again, header_is, header_again, IsNumber, numbers_text, line_text, header_text}
use Rattle.totem_names.specs.declared.fault.TextFault.TheVariants as faults
use Rattle.totem_names.specs.Numbers.{number_at}
use Rattle.totem_evs.specs.Heads.{records_at, head_at, by_head, header_at}
use Rattle.totem_evs.proofs.OnlyFaults.{ok_only, fault_only, number_only, head_only, header_only}
use Rattle.totem_evs.proofs.PartFaults.{bind_case, byte_pick}
use Rattle.totem_evs.proofs.MembersFaults.{NotMany, names_not_many}
use Rattle.totem_evs.proofs.HeadPlaces.{NotHeader, names_not_header, header_exactly as first_exactly, NotOrder, names_not_order, order_exactly, many_exactly as begun_many}
use Rattle.totem_certificate.specs.CertGrammar.{cert_words, numbers_at, lines_at, cert_at, numbering}
use Rattle.totem_certificate.specs.CertPlaces.{last_proc, IsBehindLines, BreaksHeader, HasFault, HasOrder, HasTooMany}
use Rattle.totem_certificate.proofs.LinesFromLeft.{numbers_from, LinesRise, is_certificate, certificate_from}
use Rattle.totem_certificate.proofs.SpelledNumbers.{numbers_is, numbers_tail}
use Rattle.totem_certificate.proofs.SpelledCert.{cert_clear, of_text, has_version, line_parts, made_line}
use Rattle.totem_certificate.proofs.OwnFaults.{numbers_only}

-- ---- some lines, and then a fault

-- a line has this fault, where it may begin or not
abbrev Here : TextFault → Version → Bool → ℕ → List ℕ → Type 0
Here f version full last rest = (head_at cert_words version full last rest ≡ Err f) ⊎ ((p : ℕ) × (mid : List ℕ) × (head_at cert_words version full last rest ≡ Ok (Some p, mid)) × (numbers_at 1000000 mid ≡ Err f))

record To (f : TextFault) (version : Version) (room last : ℕ) (bytes : List ℕ) : Type 0 where
  lines : List Numbering
  rest : List ℕ
  left : ℕ
  count : room ≡ suc (length lines + left)
  rises : LinesRise version last lines
  is : bytes ≡ flat_map (line_text (process_text version)) lines ++ rest
  here : Here f version (left == 0) (last_proc last lines) rest

one_line : (version : Version) (l : Numbering) (lines : List Numbering) (bytes mid b2 rest : List ℕ) → bytes ≡ head_text cert_words version (Some l.proc) ++ mid → 32 ∷ mid ≡ numbers_text l.numbers ++ 10 ∷ b2 → b2 ≡ flat_map (line_text (process_text version)) lines ++ rest → bytes ≡ flat_map (line_text (process_text version)) (l ∷ lines) ++ rest
one_line version l lines bytes mid b2 rest head numbers tail =
    head ∙ sym (line_parts version l mid b2 numbers) ∙ ap (λ (t : List ℕ). line_text (process_text version) l ++ t) tail ∙ sym (append_assoc (line_text (process_text version) l) (flat_map (line_text (process_text version)) lines) rest)

lines_break : (f : TextFault) (version : Version) (room last : ℕ) (bytes : List ℕ) → 0 < room → lines_at version room last bytes ≡ Err f → To f version room last bytes
unfolding records_at
lines_break f version zero last bytes pos e = absurd (omega arith)
lines_break f version (suc room) last bytes pos e =
    bind_case (head_at cert_words version (room == 0) last bytes) (λ head. by_head head.0 (Ok ([], head.1)) (λ p. numbers_at 1000000 head.1 >>= λ numbers. lines_at version room p numbers.1 >>= λ others. Ok (numbering p numbers.0 ∷ others.0, others.1))) f e
    (λ k. record { lines = []; rest = bytes; left = room; count = omega arith; rises = tt; is = refl; here = inl k })
    (λ head mid e1 k. go head mid e1 k (λ p b pos' k'. lines_break f version room p b pos' k'))
  where
    go : (head : Option ℕ) (mid : List ℕ) → head_at cert_words version (room == 0) last bytes ≡ Ok (head, mid)
        → by_head {Y = Parsed (List Numbering)} head (Ok ([], mid)) (λ p. numbers_at 1000000 mid >>= λ numbers. lines_at version room p numbers.1 >>= λ others. Ok (numbering p numbers.0 ∷ others.0, others.1)) ≡ Err f
        → ((p : ℕ) (b : List ℕ) → 0 < room → lines_at version room p b ≡ Err f → To f version room p b) → To f version (suc room) last bytes
    go None mid e1 k again = absurd cc
    go (Some p) mid e1 k again =
        let found = head_is cert_words version (room == 0) last (Some p) bytes mid e1 in
        let some : 0 < room = (let h = found.0.0 in grind (arith, nat_tests)) in
        bind_case (numbers_at 1000000 mid) (λ numbers. lines_at version room p numbers.1 >>= λ others. Ok (numbering p numbers.0 ∷ others.0, others.1)) f k
        (λ k. record { lines = []; rest = bytes; left = room; count = omega arith; rises = tt; is = refl; here = inr (p, mid, e1, k) })
        (λ ns b2 e2 k. bind_case (lines_at version room p b2) (λ others. Ok (numbering p ns ∷ others.0, others.1)) f k
        (λ k.
        let tail = again p b2 some k in
        let one = numbers_is 1000000 ns mid b2 e2 in
        record {
          lines = numbering p ns ∷ tail.lines;
          rest = tail.rest;
          left = tail.left;
          count = omega (arith, tail.count);
          rises = (found.0.1, made_line version p ns found.0.2 one.0, tail.rises);
          is = one_line version (numbering p ns) tail.lines bytes mid b2 tail.rest found.1 one.1 tail.is;
          here = tail.here;
        })
        (λ others left e3 k. absurd cc))

breaks_lines : (f : TextFault) (version : Version) (room last : ℕ) (lines : List Numbering) (left : ℕ) (rest : List ℕ) → room ≡ suc (length lines + left) → LinesRise version last lines → Here f version (left == 0) (last_proc last lines) rest → lines_at version room last (flat_map (line_text (process_text version)) lines ++ rest) ≡ Err f
unfolding records_at
breaks_lines f version zero last lines left rest count rises here = absurd (omega arith)
breaks_lines f version (suc room) last [] left rest count rises (inl k) =
    let same : left ≡ room = omega arith in
    let k' : head_at cert_words version (room == 0) last rest ≡ Err f = rw same at k in
    rw k' refl
breaks_lines f version (suc room) last [] left rest count rises (inr (p, mid, k, n)) =
    let same : left ≡ room = omega arith in
    let k' : head_at cert_words version (room == 0) last rest ≡ Ok (Some p, mid) = rw same at k in
    rw (k', n) refl
breaks_lines f version (suc room) last (l ∷ lines) left rest count rises here =
    let some : 0 < room = omega arith in
    let more : (room == 0) ≡ false = grind (arith, nat_tests) in
    let head : IsHead version (room == 0) last (Some l.proc) = (more, rises.0, rises.1.process) in
    let t = numbers_tail l.numbers (flat_map (line_text (process_text version)) lines ++ rest) (numbers_from l.numbers rises.1.numbers) in
    let text : flat_map (line_text (process_text version)) (l ∷ lines) ++ rest ≡ head_text cert_words version (Some l.proc) ++ t.0 = append_assoc (line_text (process_text version) l) (flat_map (line_text (process_text version)) lines) rest ∙ line_parts version l t.0 (flat_map (line_text (process_text version)) lines ++ rest) (sym t.1) in
    rw (text, head_again cert_words version (room == 0) last (Some l.proc) t.0 cert_clear head, t.2, breaks_lines f version room l.proc lines left rest (omega arith) rises.2 here) refl

-- after the first line, a certificate's fault is that of a line
cert_breaks : {P : Type 0} (bytes : List ℕ) (f : TextFault) → cert_at bytes ≡ Err f → (header_at cert_words bytes ≡ Err f → P) → (IsBehindLines bytes (HasFault f) → P) → P
unfolding cert_at
cert_breaks bytes f e first then =
    bind_case (header_at cert_words bytes) (λ v. lines_at v.0 33 0 v.1 >>= λ lines. Ok (record { version = v.0; lines = lines.0 }, lines.1)) f e first
    (λ v mid k after. bind_case (lines_at v 33 0 mid) (λ lines. Ok (record { version = v; lines = lines.0 }, lines.1)) f after
    (λ after.
    let h = header_is cert_words v bytes mid k in
    let x = lines_break f v 33 0 mid (omega arith) after in
    let full = full_is 32 (length x.lines) x.left (omega (arith, x.count)) in
    then (record {
      cert = record { version = v; lines = x.lines };
      rest = x.rest;
      are = record { version = of_text v h.0; lines = is_certificate v x.lines (record { few = omega (arith, x.count); rises = x.rises }) };
      is_bytes = h.1 ∙ ap (λ (t : List ℕ). header_text v ++ t) x.is;
      is = subst (λ (t : Bool). Here f v t (last_proc 0 x.lines) x.rest) full x.here;
    }))
    (λ lines left k2 made. absurd cc))

line_breaks : (bytes : List ℕ) (f : TextFault) → IsBehindLines bytes (HasFault f) → cert_at bytes ≡ Err f
unfolding cert_at
line_breaks bytes f h =
    let v = h.cert.version in
    let lines = h.cert.lines in
    let left = 32 - length lines in
    let full = full_is 32 (length lines) left (omega (arith, h.are.lines.few)) in
    let here : Here f v (left == 0) (last_proc 0 lines) h.rest = subst (λ (t : Bool). Here f v t (last_proc 0 lines) h.rest) (sym full) h.is in
    let broken = breaks_lines f v 33 0 lines left h.rest (omega (arith, h.are.lines.few)) (certificate_from v lines h.are.lines).rises here in
    rw h.is_bytes (rw (header_again cert_words v (flat_map (line_text (process_text v)) lines ++ h.rest) (has_version v h.are.version)) (rw broken refl))

-- a fault that is neither of the first line nor of a text that is too short
pub of_a_line : (bytes : List ℕ) (f : TextFault) → f ≢ faults.Header → f ≢ faults.Truncated → (cert_at bytes ≡ Err f) ↔ IsBehindLines bytes (HasFault f)
of_a_line bytes f other long = (λ e. cert_breaks bytes f e (λ k. absurd ((header_only cert_words (λ g. f ≢ g) bytes other long).fault f k refl)) (λ h. h), line_breaks bytes f)

exactly_in : (bytes : List ℕ) (f : TextFault) (Is : Version → ℕ → ℕ → List ℕ → Type 0) → f ≢ faults.Header → f ≢ faults.Truncated → ((version : Version) (count last : ℕ) (rest : List ℕ) → HasFault f version count last rest ↔ Is version count last rest) → (cert_at bytes ≡ Err f) ↔ IsBehindLines bytes Is
exactly_in bytes f Is other long same = (
  λ e. let h = (of_a_line bytes f other long).0 e in record { cert = h.cert; rest = h.rest; are = h.are; is_bytes = h.is_bytes; is = (same h.cert.version (length h.cert.lines) (last_proc 0 h.cert.lines) h.rest).0 h.is },
  λ h. line_breaks bytes f (record { cert = h.cert; rest = h.rest; are = h.are; is_bytes = h.is_bytes; is = (same h.cert.version (length h.cert.lines) (last_proc 0 h.cert.lines) h.rest).1 h.is }),
)

-- ---- Header

no_header : (version : Version) (full : Bool) (last : ℕ) (rest : List ℕ) → Here faults.Header version full last rest → ⊥
no_header version full last rest (inl k) = (head_only cert_words version NotHeader full last rest names_not_header tt tt).fault faults.Header k
no_header version full last rest (inr (p, mid, k, n)) = (numbers_only NotHeader 1000000 mid names_not_header tt).fault faults.Header n

header_first : (bytes : List ℕ) → header_at cert_words bytes ≡ Err faults.Header → cert_at bytes ≡ Err faults.Header
unfolding cert_at
header_first bytes e = rw e refl

pub header_exactly : (bytes : List ℕ) → (cert_at bytes ≡ Err faults.Header) ↔ BreaksHeader bytes
header_exactly bytes = (
  λ e. cert_breaks bytes faults.Header e (λ k. (first_exactly cert_words bytes).0 k) (λ h. absurd (no_header h.cert.version (length h.cert.lines == 32) (last_proc 0 h.cert.lines) h.rest h.is)),
  λ d. header_first bytes ((first_exactly cert_words bytes).1 d),
)

-- ---- Order

order_here : (version : Version) (count last : ℕ) (rest : List ℕ) → HasFault faults.Order version count last rest → HasOrder version count last rest
order_here version count last rest (inl k) = (order_exactly cert_words version (count == 32) last rest).0 k
order_here version count last rest (inr (p, mid, k, n)) = absurd ((numbers_only NotOrder 1000000 mid names_not_order tt).fault faults.Order n)

pub cert_order : (bytes : List ℕ) → (cert_at bytes ≡ Err faults.Order) ↔ IsBehindLines bytes HasOrder
cert_order bytes = exactly_in bytes faults.Order HasOrder (λ h. absurd cc) (λ h. absurd cc) (λ version count last rest. (order_here version count last rest, λ h. inl ((order_exactly cert_words version (count == 32) last rest).1 h)))

-- ---- TooMany

record IsFull (room : ℕ) (bytes : List ℕ) : Type 0 where
  numbers : List ℕ
  more : List ℕ
  each : AllByRecursion IsNumber numbers
  many : length numbers ≡ room
  is : 32 ∷ bytes ≡ numbers_text numbers ++ 32 ∷ more

numbers_full : (room : ℕ) (bytes : List ℕ) → numbers_at room bytes ≡ Err faults.TooMany → IsFull room bytes
unfolding numbers_at
numbers_full zero bytes e = record { numbers = []; more = bytes; each = tt; many = refl; is = refl }
numbers_full (suc room) bytes e =
    bind_case (number_at 4294967295 bytes) (λ n. cond (n.0.1 == 10) (Ok (n.0.0 ∷ [], n.1)) (cond (n.0.1 == 32) (numbers_at room n.1 >>= λ others. Ok (n.0.0 ∷ others.0, others.1)) (Err faults.Word))) faults.TooMany e
    (λ k. absurd ((number_only NotMany 4294967295 bytes names_not_many).fault faults.TooMany k))
    (λ n mid e1 k.
    let x = number_is 4294967295 n.0 n.1 bytes mid (omega arith) (omega arith) e1 in
    byte_pick n.1 10 (Ok (n.0 ∷ [], mid)) (cond (n.1 == 32) (numbers_at room mid >>= λ others. Ok (n.0 ∷ others.0, others.1)) (Err faults.Word)) (Err faults.TooMany) k
    (λ h k. absurd ((ok_only {A = List ℕ} NotMany (n.0 ∷ [], mid)).fault faults.TooMany k))
    (λ k. byte_pick n.1 32 (numbers_at room mid >>= λ others. Ok (n.0 ∷ others.0, others.1)) (Err faults.Word) (Err faults.TooMany) k
    (λ h k. bind_case (numbers_at room mid) (λ others. Ok (n.0 ∷ others.0, others.1)) faults.TooMany k
    (λ k.
    let tail = numbers_full room mid k in
    record {
      numbers = n.0 ∷ tail.numbers;
      more = tail.more;
      each = (record { positive = x.positive; small = x.small }, tail.each);
      many = ap suc tail.many;
      is = ap (λ (t : List ℕ). 32 ∷ t) (x.spelled ∙ ap (λ (b : ℕ). decimal n.0 ++ b ∷ mid) h ∙ ap (λ (t : List ℕ). decimal n.0 ++ t) tail.is ∙ sym (append_assoc (decimal n.0) (numbers_text tail.numbers) (32 ∷ tail.more)));
    })
    (λ others left e2 k. absurd ((ok_only {A = List ℕ} NotMany (n.0 ∷ others, left)).fault faults.TooMany k)))
    (λ k. absurd ((fault_only {A = List ℕ} NotMany faults.Word tt).fault faults.TooMany k))))

full_numbers : (room n : ℕ) (ns more : List ℕ) → AllByRecursion IsNumber (n ∷ ns) → length (n ∷ ns) ≡ room → numbers_at room (decimal n ++ (numbers_text ns ++ 32 ∷ more)) ≡ Err faults.TooMany
unfolding numbers_at
full_numbers zero n ns more each many = absurd (omega arith)
full_numbers (suc room) n [] more each many =
    let none : room ≡ 0 = omega arith in
    rw (number_again 4294967295 n 32 more each.0.positive each.0.small (omega arith) refl, none) refl
full_numbers (suc room) n (m ∷ ns) more each many =
    let regrouped : numbers_text (m ∷ ns) ++ 32 ∷ more ≡ 32 ∷ (decimal m ++ (numbers_text ns ++ 32 ∷ more)) = simp append_assoc in
    rw (regrouped, number_again 4294967295 n 32 (decimal m ++ (numbers_text ns ++ 32 ∷ more)) each.0.positive each.0.small (omega arith) refl, full_numbers room m ns more each.1 (omega arith)) refl

many_here : (version : Version) (count last : ℕ) (rest : List ℕ) → HasFault faults.TooMany version count last rest → HasTooMany version count last rest
many_here version count last rest (inl k) = inl ((begun_many cert_words version (count == 32) last rest).0 k)
many_here version count last rest (inr (p, mid, k, n)) =
    let found = head_is cert_words version (count == 32) last (Some p) rest mid k in
    let x = numbers_full 1000000 mid n in
    inr (record {
      proc = p;
      numbers = x.numbers;
      more = x.more;
      room = found.0.0;
      fits = found.0.2;
      above = found.0.1;
      each = All-from_recursion IsNumber x.numbers x.each;
      many = x.many;
      is = found.1 ∙ begin_parts cert_words version p mid ∙ ap (λ (t : List ℕ). codes "pos " ++ (process_text version p ++ t)) x.is;
    })

here_many : (version : Version) (count last : ℕ) (rest : List ℕ) → HasTooMany version count last rest → HasFault faults.TooMany version count last rest
here_many version count last rest (inl h) = inl ((begun_many cert_words version (count == 32) last rest).1 h)
here_many version count last rest (inr h) = go h.numbers (recursion_from_All IsNumber h.numbers h.each) h.many h.is
  where
    go : (ns : List ℕ) → AllByRecursion IsNumber ns → length ns ≡ 1000000 → rest ≡ codes "pos " ++ (process_text version h.proc ++ (numbers_text ns ++ 32 ∷ h.more)) → HasFault faults.TooMany version count last rest
    go [] each many is = absurd (omega arith)
    go (n ∷ ns) each many is =
        let mid = decimal n ++ (numbers_text ns ++ 32 ∷ h.more) in
        let regrouped : numbers_text (n ∷ ns) ++ 32 ∷ h.more ≡ 32 ∷ mid = simp append_assoc in
        let text : rest ≡ head_text cert_words version (Some h.proc) ++ mid = is ∙ ap (λ (t : List ℕ). codes "pos " ++ (process_text version h.proc ++ t)) regrouped ∙ sym (begin_parts cert_words version h.proc mid) in
        inr (h.proc, mid, rw text (head_again cert_words version (count == 32) last (Some h.proc) mid cert_clear (h.room, h.above, h.fits)), full_numbers 1000000 n ns h.more each many)

pub cert_many : (bytes : List ℕ) → (cert_at bytes ≡ Err faults.TooMany) ↔ IsBehindLines bytes HasTooMany
cert_many bytes = exactly_in bytes faults.TooMany HasTooMany (λ h. absurd cc) (λ h. absurd cc) (λ version count last rest. (many_here version count last rest, here_many version count last rest))
