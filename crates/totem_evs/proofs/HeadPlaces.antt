-- Where a fault of a first line is, and one of the beginning of a record.
use Rattle.totem_evs.proofs.Common.{◌==◌, ◌&&◌, nat_le, ◌↔◌, ◌≡◌, ◌≢◌, ℕ, inl, inr, List, [], ◌∷◌, ◌++◌, Bool, true, false, cond, Option, Some, Ok, Err, refl, sym, ap, ◌∙◌, arith, rules, eqb-true, nat_tests, Version, One, Two, Three, TextFault, Parsed, ◌>>=◌, process_then_is, process_then_again, taken, word_is, word_again, line, version_digit}
use Rattle.totem_names.specs.declared.fault.TextFault.TheVariants as faults
use Rattle.totem_names.specs.Numbers.{byte_at, word_at}
use Rattle.totem_names.specs.Processes.{process_then}
use Rattle.totem_evs.specs.Heads.{Words, HasVersion, proc_at, begin_at, end_at, head_at, header_end, header_at}
use Rattle.totem_evs.specs.HeadFaults.{Differs, BreaksFirstLine, BeginsBelow}
use Rattle.totem_evs.proofs.OnlyFaults.{OfNames, fault_only, proc_only, word_only, process_only, end_only}
use Rattle.totem_evs.proofs.PartFaults.{bind_case, byte_case, byte_pick}
use Rattle.totem_evs.proofs.MembersFaults.{within_is, NotMany, names_not_many}
use Rattle.totem_evs.proofs.SpelledHeads.{both_hold}

-- ---- Order

abbrev pub NotOrder : TextFault → Type 0
NotOrder faults.Header = Unit {0}
NotOrder faults.Word = Unit {0}
NotOrder faults.Number = Unit {0}
NotOrder faults.Order = ⊥
NotOrder faults.Members = Unit {0}
NotOrder faults.End = Unit {0}
NotOrder faults.Truncated = Unit {0}
NotOrder faults.TooMany = Unit {0}

pub names_not_order : OfNames NotOrder
names_not_order = record { word = tt; number = tt; short = tt }

proc_order : (words : Words) (version : Version) (full : Bool) (last : ℕ) (bytes rest : List ℕ) → full ≡ false → bytes ≡ words.letter ∷ rest → proc_at words version last rest ≡ Err faults.Order → BeginsBelow words version full last bytes
unfolding proc_at
proc_order words version full last bytes rest room is e =
    bind_case (word_at faults.Word words.word rest) (λ w. process_then version w.1 >>= λ p. cond (nat_le p.0.0 last) (Err faults.Order) (cond (p.0.1 == words.behind) (Ok (p.0.0, p.1)) (Err faults.Word))) faults.Order e
    (λ k. absurd ((word_only NotOrder faults.Word words.word rest tt tt).fault faults.Order k))
    (λ w b1 e1 k.
    bind_case (process_then version b1) (λ p. cond (nat_le p.0.0 last) (Err faults.Order) (cond (p.0.1 == words.behind) (Ok (p.0.0, p.1)) (Err faults.Word))) faults.Order k
    (λ k. absurd ((process_only NotOrder version b1 names_not_order).fault faults.Order k))
    (λ p b2 e2 k.
    let x = process_then_is version p.0 p.1 b1 b2 e2 in
    elim (taken (nat_le p.0 last) (Err faults.Order) (cond (p.1 == words.behind) (Ok (p.0, b2)) (Err faults.Word)) (Err faults.Order) k) [
      | inl y ↦ record {
        proc = p.0;
        byte = p.1;
        rest = b2;
        room = room;
        fits = record { id_fits = x.id_fits; life_fits = x.life_fits; first = x.first };
        below = within_is p.0 last y.0;
        complete = x.behind;
        is = is ∙ ap (λ (t : List ℕ). words.letter ∷ t) (word_is faults.Word words.word rest b1 w e1 ∙ ap (λ (t : List ℕ). words.word ++ t) x.spelled);
      }
      | inr y ↦ byte_pick p.1 words.behind _ _ _ y.1 (λ h k. absurd cc) (λ k. absurd cc)
    ]))

head_order : (words : Words) (version : Version) (full : Bool) (last : ℕ) (bytes : List ℕ) → head_at words version full last bytes ≡ Err faults.Order → BeginsBelow words version full last bytes
unfolding head_at begin_at
head_order words version full last bytes e =
    byte_case bytes (λ b. cond (b.0 == words.letter) (begin_at words version full last b.1) (cond (b.0 == 101) (end_at b.1) (Err faults.Word))) faults.Order (λ h. absurd cc) e (λ b rest is k.
    byte_pick b words.letter (begin_at words version full last rest) (cond (b == 101) (end_at rest) (Err faults.Word)) (Err faults.Order) k
    (λ h k. elim (taken full (Err faults.TooMany) (proc_at words version last rest >>= λ p. Ok (Some p.0, p.1)) (Err faults.Order) k) [
      | inl x ↦ absurd ((fault_only {A = Option ℕ} NotOrder faults.TooMany tt).fault faults.Order x.1)
      | inr x ↦ bind_case (proc_at words version last rest) (λ p. Ok (Some p.0, p.1)) faults.Order x.1 (proc_order words version full last bytes rest x.0 (is ∙ ap (λ (c : ℕ). c ∷ rest) h)) (λ p mid e1 k. absurd cc)
    ])
    (λ k. byte_pick b 101 (end_at rest) (Err faults.Word) (Err faults.Order) k
    (λ h k. absurd ((end_only NotOrder rest names_not_order).fault faults.Order k))
    (λ k. absurd ((fault_only {A = Option ℕ} NotOrder faults.Word tt).fault faults.Order k))))

order_head : (words : Words) (version : Version) (full : Bool) (last : ℕ) (bytes : List ℕ) → BeginsBelow words version full last bytes → head_at words version full last bytes ≡ Err faults.Order
unfolding head_at begin_at proc_at
order_head words version full last bytes h = grind (arith, nat_tests, word_again, process_then_again)

pub order_exactly : (words : Words) (version : Version) (full : Bool) (last : ℕ) (bytes : List ℕ) → (head_at words version full last bytes ≡ Err faults.Order) ↔ BeginsBelow words version full last bytes
order_exactly words version full last bytes = (head_order words version full last bytes, order_head words version full last bytes)

-- ---- TooMany

begin_many : (words : Words) (version : Version) (full : Bool) (last : ℕ) (bytes : List ℕ) → begin_at words version full last bytes ≡ Err faults.TooMany → full ≡ true
unfolding begin_at
begin_many words version true last bytes e = refl
begin_many words version false last bytes e =
    absurd (bind_case (proc_at words version last bytes) (λ p. Ok (Some p.0, p.1)) faults.TooMany e (λ k. (proc_only words version NotMany last bytes names_not_many tt).fault faults.TooMany k) (λ x rest h k. absurd cc))

head_many : (words : Words) (version : Version) (full : Bool) (last : ℕ) (bytes : List ℕ) → head_at words version full last bytes ≡ Err faults.TooMany → (rest : List ℕ) × (full ≡ true) × (bytes ≡ words.letter ∷ rest)
unfolding head_at
head_many words version full last bytes e =
    byte_case bytes (λ b. cond (b.0 == words.letter) (begin_at words version full last b.1) (cond (b.0 == 101) (end_at b.1) (Err faults.Word))) faults.TooMany (λ h. absurd cc) e (λ b rest is k.
    byte_pick b words.letter (begin_at words version full last rest) (cond (b == 101) (end_at rest) (Err faults.Word)) (Err faults.TooMany) k
    (λ h k. (rest, begin_many words version full last rest k, is ∙ ap (λ (c : ℕ). c ∷ rest) h))
    (λ k. byte_pick b 101 (end_at rest) (Err faults.Word) (Err faults.TooMany) k
    (λ h k. absurd ((end_only NotMany rest names_not_many).fault faults.TooMany k))
    (λ k. absurd ((fault_only {A = Option ℕ} NotMany faults.Word tt).fault faults.TooMany k))))

many_head : (words : Words) (version : Version) (full : Bool) (last : ℕ) (bytes rest : List ℕ) → full ≡ true → bytes ≡ words.letter ∷ rest → head_at words version full last bytes ≡ Err faults.TooMany
unfolding head_at begin_at
many_head words version full last bytes rest is_full is = let same : (words.letter == words.letter) ≡ true = search rules in rw (is_full, is) (rw same refl)

pub many_exactly : (words : Words) (version : Version) (full : Bool) (last : ℕ) (bytes : List ℕ) → (head_at words version full last bytes ≡ Err faults.TooMany) ↔ ((rest : List ℕ) × (full ≡ true) × (bytes ≡ words.letter ∷ rest))
many_exactly words version full last bytes = (head_many words version full last bytes, λ h. many_head words version full last bytes h.0 h.1 h.2)

-- ---- Header

-- a number differs where the test says so
not_same : (x y : ℕ) → (x == y) ≡ false → x ≢ y
not_same x y e same = absurd (let test : (y == y) ≡ true = search rules in let other : (y == y) ≡ false = rw same at e in cc)

pub word_differs : (fault : TextFault) (word bytes : List ℕ) → fault ≢ faults.Truncated → word_at fault word bytes ≡ Err fault → Differs word bytes
unfolding word_at
word_differs fault [] bytes long e = absurd cc
word_differs fault (w ∷ word) bytes long e =
    byte_case bytes (λ b. cond (b.0 == w) (word_at fault word b.1) (Err fault)) fault long e (λ b rest is k. elim (taken (b == w) (word_at fault word rest) (Err fault) (Err fault) k) [
      | inl x ↦
          let d = word_differs fault word rest long x.1 in
          let same : b ≡ w = eqb-true b w x.0 in
          record {
            front = b ∷ d.front;
            wanted = d.wanted;
            behind = d.behind;
            byte = d.byte;
            rest = d.rest;
            is_word = ap (λ (t : List ℕ). w ∷ t) d.is_word ∙ ap (λ (c : ℕ). c ∷ (d.front ++ d.wanted ∷ d.behind)) (sym same);
            is_bytes = is ∙ ap (λ (t : List ℕ). b ∷ t) d.is_bytes;
            differs = d.differs;
          }
      | inr x ↦ record { front = []; wanted = w; behind = word; byte = b; rest = rest; is_word = refl; is_bytes = is; differs = not_same b w x.0 }
    ])

differs_at : (fault : TextFault) (front : List ℕ) (wanted byte : ℕ) (behind rest : List ℕ) → byte ≢ wanted → word_at fault (front ++ wanted ∷ behind) (front ++ byte ∷ rest) ≡ Err fault
unfolding word_at
differs_at fault [] wanted byte behind rest other = let test : (byte == wanted) ≡ false = search rules in rw test refl
differs_at fault (x ∷ front) wanted byte behind rest other = let test : (x == x) ≡ true = search rules in rw test (differs_at fault front wanted byte behind rest other)

pub differs_word : (fault : TextFault) (word bytes : List ℕ) → Differs word bytes → word_at fault word bytes ≡ Err fault
differs_word fault word bytes d = rw (d.is_word, d.is_bytes) (differs_at fault d.front d.wanted d.byte d.behind d.rest d.differs)

abbrev pub NotHeader : TextFault → Type 0
NotHeader faults.Header = ⊥
NotHeader faults.Word = Unit {0}
NotHeader faults.Number = Unit {0}
NotHeader faults.Order = Unit {0}
NotHeader faults.Members = Unit {0}
NotHeader faults.End = Unit {0}
NotHeader faults.Truncated = Unit {0}
NotHeader faults.TooMany = Unit {0}

pub names_not_header : OfNames NotHeader
names_not_header = record { word = tt; number = tt; short = tt }

-- what follows the digit of a version
end_breaks : (version : Version) (bytes : List ℕ) → header_end version bytes ≡ Err faults.Header → Differs (line []) bytes
unfolding header_end
end_breaks version bytes e =
    bind_case (word_at faults.Header (line []) bytes) (λ w. Ok (version, w.1)) faults.Header e (λ k. word_differs faults.Header (line []) bytes (λ h. absurd cc) k) (λ w mid e1 k. absurd cc)

breaks_end : (version : Version) (bytes : List ℕ) → Differs (line []) bytes → header_end version bytes ≡ Err faults.Header
unfolding header_end
breaks_end version bytes d = ap (λ (r : Parsed (Unit {0})). r >>= λ w. Ok (version, w.1)) (differs_word faults.Header (line []) bytes d)

-- a digit that is of no version
of_none : (words : Words) (v : ℕ) → (v == 49) ≡ false → (v == 50) ≡ false → (words.third && (v == 51)) ≡ false → (version : Version) → HasVersion words version → v ≢ version_digit version
of_none words v h k m version o = grind (arith, not_same)

header_breaks : (words : Words) (bytes : List ℕ) → header_at words bytes ≡ Err faults.Header → BreaksFirstLine words bytes
unfolding header_at
header_breaks words bytes e =
    bind_case (word_at faults.Header words.title bytes) (λ w. byte_at w.1 >>= λ v. cond (v.0 == 49) (header_end One v.1) (cond (v.0 == 50) (header_end Two v.1) (cond (words.third && (v.0 == 51)) (header_end Three v.1) (Err faults.Header)))) faults.Header e
    (λ k. inl (word_differs faults.Header words.title bytes (λ h. absurd cc) k))
    (λ w mid e1 k. byte_case mid (λ v. cond (v.0 == 49) (header_end One v.1) (cond (v.0 == 50) (header_end Two v.1) (cond (words.third && (v.0 == 51)) (header_end Three v.1) (Err faults.Header)))) faults.Header (λ h. absurd cc) k (λ v rest is k.
    let whole : bytes ≡ words.title ++ v ∷ rest = word_is faults.Header words.title bytes mid w e1 ∙ ap (λ (t : List ℕ). words.title ++ t) is in
    elim (taken (v == 49) (header_end One rest) (cond (v == 50) (header_end Two rest) (cond (words.third && (v == 51)) (header_end Three rest) (Err faults.Header))) (Err faults.Header) k) [
      | inl r ↦ inr (inr (One, rest, tt, whole ∙ ap (λ (k : ℕ). words.title ++ k ∷ rest) (eqb-true v 49 r.0), end_breaks One rest r.1))
      | inr other ↦ elim (taken (v == 50) (header_end Two rest) (cond (words.third && (v == 51)) (header_end Three rest) (Err faults.Header)) (Err faults.Header) other.1) [
        | inl r ↦ inr (inr (Two, rest, tt, whole ∙ ap (λ (k : ℕ). words.title ++ k ∷ rest) (eqb-true v 50 r.0), end_breaks Two rest r.1))
        | inr third ↦ elim (taken (words.third && (v == 51)) (header_end Three rest) (Err faults.Header) (Err faults.Header) third.1) [
          | inl r ↦ let has = both_hold words.third (v == 51) r.0 in inr (inr (Three, rest, has.0, whole ∙ ap (λ (k : ℕ). words.title ++ k ∷ rest) (eqb-true v 51 has.1), end_breaks Three rest r.1))
          | inr none ↦ inr (inl (v, rest, whole, of_none words v other.0 third.0 none.0))
        ]
      ]
    ]))

no_third : (third test : Bool) → (third ≡ true → test ≡ false) → (third && test) ≡ false
no_third third test h = grind arith

not_equal : (x y : ℕ) → x ≢ y → (x == y) ≡ false
not_equal x y other = search rules

breaks_header : (words : Words) (bytes : List ℕ) → BreaksFirstLine words bytes → header_at words bytes ≡ Err faults.Header
unfolding header_at
breaks_header words bytes (inl d) =
    ap (λ (r : Parsed (Unit {0})). r >>= λ w. byte_at w.1 >>= λ v. cond (v.0 == 49) (header_end One v.1) (cond (v.0 == 50) (header_end Two v.1) (cond (words.third && (v.0 == 51)) (header_end Three v.1) (Err faults.Header)))) (differs_word faults.Header words.title bytes d)
breaks_header words bytes (inr (inl (byte, rest, is, none))) =
    let one = not_equal byte 49 (none One tt) in
    let two = not_equal byte 50 (none Two tt) in
    let three = no_third words.third (byte == 51) (λ has. not_equal byte 51 (none Three has)) in
    rw is (rw (word_again faults.Header words.title (byte ∷ rest)) (rw (one, two, three) refl))
breaks_header words bytes (inr (inr (One, rest, has, is, d))) = rw is (rw (word_again faults.Header words.title (49 ∷ rest)) (breaks_end One rest d))
breaks_header words bytes (inr (inr (Two, rest, has, is, d))) = rw is (rw (word_again faults.Header words.title (50 ∷ rest)) (breaks_end Two rest d))
breaks_header words bytes (inr (inr (Three, rest, has, is, d))) = rw is (rw (word_again faults.Header words.title (51 ∷ rest)) (rw has (breaks_end Three rest d)))

pub header_exactly : (words : Words) (bytes : List ℕ) → (header_at words bytes ≡ Err faults.Header) ↔ BreaksFirstLine words bytes
header_exactly words bytes = (header_breaks words bytes, breaks_header words bytes)
