-- What is read is spelled so, and what is spelled so is read: a first line, and the beginning of a record.
use Rattle.totem_evs.proofs.Common.{nat_le, ◌==◌, ◌&&◌, codes, ◌≡◌, ℕ, ◌<◌, List, [], ◌∷◌, ◌++◌, Option, Some, None, Ok, Err, Bool, true, false, cond, refl, sym, ◌∙◌, ap, append_assoc, arith, rules, eqb-true, nat_tests, Version, One, Two, Three, ◌>>=◌, process_then_is, process_then_again, after, guard_then, guard_else, parsed_is, byte_is, word_is, word_again, line, version_digit}
use Rattle.totem_names.specs.declared.fault.TextFault.TheVariants as faults
use Rattle.totem_names.specs.Numbers.{is_digit, byte_at, word_at}
use Rattle.totem_names.specs.Processes.{process_text, process_then, IsProcessIn}
use Rattle.totem_evs.specs.Heads.{Words, HasVersion, first_line, proc_at, begin_at, end_at, head_at, header_end, header_at}
use Rattle.totem_evs.proofs.PartFaults.{byte_pick}
use Rattle.totem_evs.proofs.SpelledLine.{not_within}

-- words that distinguish a record from the last line, and a process from what is after it
pub record IsClear (words : Words) : Type 0 where
  pub letter : (101 == words.letter) ≡ false
  pub behind : is_digit words.behind ≡ false

-- ---- the beginning of a record

-- a record up to and including the byte after its process, or the last line
abbrev pub head_text : Words → Version → Option ℕ → List ℕ
head_text words version None = line (codes "end")
head_text words version (Some p) = words.letter ∷ (words.word ++ (process_text version p ++ words.behind ∷ []))

abbrev pub IsHead : Version → Bool → ℕ → Option ℕ → Type 0
IsHead version full last None = Unit {0}
IsHead version full last (Some p) = (full ≡ false) × (last < p) × IsProcessIn version p

proc_is : (words : Words) (version : Version) (last p : ℕ) (bytes rest : List ℕ) → proc_at words version last bytes ≡ Ok (p, rest) → (last < p) × IsProcessIn version p × (bytes ≡ words.word ++ (process_text version p ++ words.behind ∷ rest))
unfolding proc_at
proc_is words version last p bytes rest e =
    after (word_at faults.Word words.word bytes) (λ w. process_then version w.1 >>= λ p. cond (nat_le p.0.0 last) (Err faults.Order) (cond (p.0.1 == words.behind) (Ok (p.0.0, p.1)) (Err faults.Word))) (p, rest) e (λ w b1 e1 m1.
    after (process_then version b1) (λ p. cond (nat_le p.0.0 last) (Err faults.Order) (cond (p.0.1 == words.behind) (Ok (p.0.0, p.1)) (Err faults.Word))) (p, rest) m1 (λ n b2 e2 m2.
    let g = guard_else (nat_le n.0 last) (cond (n.1 == words.behind) (Ok (n.0, b2)) (Err faults.Word)) faults.Order (p, rest) m2 in
    let t = guard_then (n.1 == words.behind) (Ok (n.0, b2)) faults.Word (p, rest) g.1 in
    let same : n.1 ≡ words.behind = eqb-true _ _ t.0 in
    let q = parsed_is n.0 p b2 rest t.1 in
    let t1 = word_is faults.Word words.word bytes b1 w e1 in
    let x = process_then_is version n.0 n.1 b1 b2 e2 in
    let is_process : IsProcessIn version n.0 = record { id_fits = x.id_fits; life_fits = x.life_fits; first = x.first } in
    let above : last < n.0 = not_within n.0 last g.0 in
    let text : bytes ≡ words.word ++ (process_text version n.0 ++ words.behind ∷ b2) = t1 ∙ ap (λ (t : List ℕ). words.word ++ t) (x.spelled ∙ ap (λ (b : ℕ). process_text version n.0 ++ b ∷ b2) same) in
    let whole : (last < n.0) × IsProcessIn version n.0 × (bytes ≡ words.word ++ (process_text version n.0 ++ words.behind ∷ b2)) = (above, is_process, text) in
    rw (← q.0, ← q.1) whole))

pub begin_parts : (words : Words) (version : Version) (p : ℕ) (rest : List ℕ) → head_text words version (Some p) ++ rest ≡ words.letter ∷ (words.word ++ (process_text version p ++ words.behind ∷ rest))
begin_parts words version p rest =
    ap (λ (t : List ℕ). words.letter ∷ t) (append_assoc words.word (process_text version p ++ words.behind ∷ []) rest ∙ ap (λ (t : List ℕ). words.word ++ t) (append_assoc (process_text version p) (words.behind ∷ []) rest))

begin_is : (words : Words) (version : Version) (full : Bool) (last : ℕ) (head : Option ℕ) (bytes rest : List ℕ) → begin_at words version full last bytes ≡ Ok (head, rest) → IsHead version full last head × (words.letter ∷ bytes ≡ head_text words version head ++ rest)
unfolding begin_at
begin_is words version full last head bytes rest e =
    let g = guard_else full (proc_at words version last bytes >>= λ p. Ok (Some p.0, p.1)) faults.TooMany (head, rest) e in
    after (proc_at words version last bytes) (λ p. Ok (Some p.0, p.1)) (head, rest) g.1 (λ p b1 e1 made.
    let q = parsed_is (Some p) head b1 rest made in
    let found = proc_is words version last p bytes b1 e1 in
    let whole : IsHead version full last (Some p) × (words.letter ∷ bytes ≡ head_text words version (Some p) ++ b1) = ((g.0, found.0, found.1), ap (λ (t : List ℕ). words.letter ∷ t) found.2 ∙ sym (begin_parts words version p b1)) in
    rw (← q.0, ← q.1) whole)

end_is : (words : Words) (version : Version) (full : Bool) (last : ℕ) (head : Option ℕ) (bytes rest : List ℕ) → end_at bytes ≡ Ok (head, rest) → IsHead version full last head × (101 ∷ bytes ≡ head_text words version head ++ rest)
unfolding end_at
end_is words version full last head bytes rest e =
    after (word_at faults.Word (line (codes "nd")) bytes) (λ w. Ok (None, w.1)) (head, rest) e (λ w b1 e1 made.
    let q = parsed_is None head b1 rest made in
    let t1 = word_is faults.Word (line (codes "nd")) bytes b1 w e1 in
    let whole : IsHead version full last None × (101 ∷ bytes ≡ head_text words version None ++ b1) = (tt, ap (λ (t : List ℕ). 101 ∷ t) t1) in
    rw (← q.0, ← q.1) whole)

pub head_is : (words : Words) (version : Version) (full : Bool) (last : ℕ) (head : Option ℕ) (bytes rest : List ℕ) → head_at words version full last bytes ≡ Ok (head, rest) → IsHead version full last head × (bytes ≡ head_text words version head ++ rest)
unfolding head_at
head_is words version full last head bytes rest e =
    after (byte_at bytes) (λ b. cond (b.0 == words.letter) (begin_at words version full last b.1) (cond (b.0 == 101) (end_at b.1) (Err faults.Word))) (head, rest) e (λ b mid e1 more.
    let whole = byte_is bytes b mid e1 in
    byte_pick b words.letter _ _ _ more (λ h k.
    let found = begin_is words version full last head mid rest k in (found.0, whole ∙ ap (λ (k : ℕ). k ∷ mid) h ∙ found.1)) (λ k.
    byte_pick b 101 _ _ _ k (λ h k.
    let found = end_is words version full last head mid rest k in (found.0, whole ∙ ap (λ (k : ℕ). k ∷ mid) h ∙ found.1)) (λ k.
    absurd cc)))

same_byte : (n : ℕ) → (n == n) ≡ true
same_byte n = search rules

begin_again : (words : Words) (version : Version) (last p : ℕ) (rest : List ℕ) → IsClear words → last < p → IsProcessIn version p → begin_at words version false last (words.word ++ (process_text version p ++ words.behind ∷ rest)) ≡ Ok (Some p, rest)
unfolding begin_at proc_at
begin_again words version last p rest clear lt fits = grind (arith, nat_tests, word_again, process_then_again, same_byte)

pub head_again : (words : Words) (version : Version) (full : Bool) (last : ℕ) (head : Option ℕ) (rest : List ℕ) → IsClear words → IsHead version full last head → head_at words version full last (head_text words version head ++ rest) ≡ Ok (head, rest)
unfolding head_at end_at word_at
head_again words version full last None rest clear is = rw clear.letter refl
head_again words version full last (Some p) rest clear is = ap (head_at words version full last) (begin_parts words version p rest) ∙ rw (same_byte words.letter, is.0) (begin_again words version last p rest clear is.1 is.2)

-- ---- the first line

header_end_is : (version v : Version) (bytes rest : List ℕ) → header_end version bytes ≡ Ok (v, rest) → (version ≡ v) × (bytes ≡ 10 ∷ rest)
unfolding header_end
header_end_is version v bytes rest e =
    after (word_at faults.Header (line []) bytes) (λ w. Ok (version, w.1)) (v, rest) e (λ w mid e1 made.
    let q = parsed_is version v mid rest made in
    (q.0, word_is faults.Header (line []) bytes mid w e1 ∙ ap (λ (t : List ℕ). 10 ∷ t) q.1))

-- two tests
pub both_hold : (s t : Bool) → (s && t) ≡ true → (s ≡ true) × (t ≡ true)
both_hold s t h = grind arith

pub first_parts : (words : Words) (version : Version) (rest : List ℕ) → first_line words version ++ rest ≡ words.title ++ version_digit version ∷ 10 ∷ rest
first_parts words version rest = append_assoc (words.title ++ version_digit version ∷ []) (10 ∷ []) rest ∙ append_assoc words.title (version_digit version ∷ []) (10 ∷ rest)

pub header_is : (words : Words) (version : Version) (bytes rest : List ℕ) → header_at words bytes ≡ Ok (version, rest) → HasVersion words version × (bytes ≡ first_line words version ++ rest)
unfolding header_at
header_is words version bytes rest e =
    after (word_at faults.Header words.title bytes) (λ w. byte_at w.1 >>= λ v. cond (v.0 == 49) (header_end One v.1) (cond (v.0 == 50) (header_end Two v.1) (cond (words.third && (v.0 == 51)) (header_end Three v.1) (Err faults.Header)))) (version, rest) e (λ w mid e1 more.
    after (byte_at mid) (λ v. cond (v.0 == 49) (header_end One v.1) (cond (v.0 == 50) (header_end Two v.1) (cond (words.third && (v.0 == 51)) (header_end Three v.1) (Err faults.Header)))) (version, rest) more (λ v left e2 made.
    let whole : bytes ≡ words.title ++ v ∷ left = word_is faults.Header words.title bytes mid w e1 ∙ ap (λ (t : List ℕ). words.title ++ t) (byte_is mid v left e2) in
    byte_pick v 49 _ _ _ made (of_digit One v left whole tt) (λ k.
    byte_pick v 50 _ _ _ k (of_digit Two v left whole tt) (λ k.
    let t = guard_then (words.third && (v == 51)) (header_end Three left) faults.Header (version, rest) k in
    let has = both_hold words.third (v == 51) t.0 in
    of_digit Three v left whole has.0 (eqb-true v 51 has.1) t.1))))
  where
    of_digit : (w : Version) (v : ℕ) (left : List ℕ) → bytes ≡ words.title ++ v ∷ left → HasVersion words w → v ≡ version_digit w → header_end w left ≡ Ok (version, rest) → HasVersion words version × (bytes ≡ first_line words version ++ rest)
    of_digit w v left whole has test made =
        let found = header_end_is w version left rest made in
        rw (← found.0) (has, whole ∙ ap (λ (k : ℕ). words.title ++ k ∷ left) test ∙ ap (λ (t : List ℕ). words.title ++ version_digit w ∷ t) found.1 ∙ sym (first_parts words w rest))

end_of : (version : Version) (rest : List ℕ) → header_end version (10 ∷ rest) ≡ Ok (version, rest)
unfolding header_end word_at
end_of version rest = refl

pub header_again : (words : Words) (version : Version) (rest : List ℕ) → HasVersion words version → header_at words (first_line words version ++ rest) ≡ Ok (version, rest)
unfolding header_at
header_again words version rest h = grind (arith, first_parts, word_again, end_of)
