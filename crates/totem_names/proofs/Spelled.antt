-- What is read is spelled so, and what is spelled so is read: words, numbers and names.
use Rattle.totem_names.proofs.Common.{decimal, ◌==◌, codes, ◌≡◌, ◌≢◌, ℕ, zero, suc, ◌+◌, ◌-◌, ◌*◌, ◌/◌, ◌%◌, ◌^◌, ◌<◌, ◌≤◌, inl, inr, List, [], ◌∷◌, ◌++◌, map, Ok, Err, Bool, true, false, cond, refl, sym, ◌∙◌, ap, append_assoc, arith, rules, cases_lt, eqb-true, RingName, MessageName, ◌>>=◌, ring_text, conf_text, message_text, IsUpTo, IsProcess, IsRing, IsConf, IsMessage}
use Rattle.std.proofs.lemmas.Fmt.{decimal-digits_of, decimal_digit}
use Rattle.std.proofs.lemmas.Int.Digits.{digits_of_step}
use Rattle.totem_names.specs.declared.fault.TextFault.{TextFault}
use Rattle.totem_names.specs.declared.fault.TextFault.TheVariants.{Word, Number}
use Rattle.totem_names.specs.declared.conf.ConfId.{ConfId}
use Rattle.totem_names.specs.declared.conf.ConfId.TheVariants.{Regular, Transitional}
use Rattle.totem_names.specs.Numbers.{is_digit, byte_at, word_at, digits_at, number_at, number_to}
use Rattle.totem_names.specs.Parsers.{ring_at, message_at, regular_at, transitional_at, conf_at}
use Rattle.totem_names.proofs.Steps.{bind_ok, after, taken, guard_then, parsed_is}
use Rattle.totem_names.proofs.Readers.{first_digit, first_other, next_digit, next_over, next_other}

-- ---- words

pub byte_is : (bytes : List ℕ) (b : ℕ) (rest : List ℕ) → byte_at bytes ≡ Ok (b, rest) → bytes ≡ b ∷ rest
byte_is [] b rest e = absurd cc
byte_is (c ∷ bytes) b rest e = let p = parsed_is c b bytes rest e in rw (p.0, p.1) refl

pub word_is : (fault : TextFault) (word bytes rest : List ℕ) (u : Unit {0}) → word_at fault word bytes ≡ Ok (u, rest) → bytes ≡ word ++ rest
unfolding word_at
word_is fault [] bytes rest u e = (parsed_is tt u bytes rest e).1
word_is fault (w ∷ word) bytes rest u e =
    let a = bind_ok (byte_at bytes) (λ b. cond (b.0 == w) (word_at fault word b.1) (Err fault)) (u, rest) e in
    let t = guard_then (a.0.0 == w) (word_at fault word a.0.1) fault (u, rest) a.2 in
    let same : a.0.0 ≡ w = eqb-true _ _ t.0 in
    byte_is bytes a.0.0 a.0.1 a.1 ∙ rw (same, word_is fault word a.0.1 rest u t.1) refl

pub word_again : (fault : TextFault) (word rest : List ℕ) → word_at fault word (word ++ rest) ≡ Ok (tt, rest)
unfolding word_at
word_again fault [] rest = refl
word_again fault (w ∷ word) rest = let same : (w == w) ≡ true = search rules in rw same (word_again fault word rest)

-- ---- numbers

map-append : (f : ℕ → ℕ) (xs ys : List ℕ) → map f (xs ++ ys) ≡ map f xs ++ map f ys
map-append f [] ys = refl
map-append f (x ∷ xs) ys = ap (λ zs. f x ∷ zs) (map-append f xs ys)

-- one more digit
pub decimal_push : (n d : ℕ) → 0 < n → d < 10 → 10 * n + d < 2 ^ 64 → decimal (10 * n + d) ≡ decimal n ++ (48 + d) ∷ []
decimal_push n d pos low fits = grind (arith, decimal-digits_of, digits_of_step, map-append)

digit_test : (d : ℕ) → d < 10 → is_digit (48 + d) ≡ true
digit_test d low = grind arith

-- the digits of a number are read, whatever follows
pub reads_decimal : (fuel max n : ℕ) (tail : List ℕ) → n ≤ fuel → 0 < n → n ≤ max → max < 2 ^ 32 → number_at max (decimal n ++ tail) ≡ digits_at max n tail
reads_decimal zero max n tail le pos small fits = absurd (omega arith)
reads_decimal (suc fuel) max n tail le pos small fits = elim (cases_lt n 10) [
  | inl low ↦ rw (decimal_digit n low) (first_digit max (48 + n) n (digit_test n low) (λ e. omega arith) (omega arith) tail)
  | inr high ↦ many high (reads_decimal fuel max (n / 10) ((48 + n % 10) ∷ tail) (omega arith) (omega arith) (omega arith) fits)
]
  where
    many : 10 ≤ n → number_at max (decimal (n / 10) ++ (48 + n % 10) ∷ tail) ≡ digits_at max (n / 10) ((48 + n % 10) ∷ tail) → number_at max (decimal n ++ tail) ≡ digits_at max n tail
    many high front =
        let q = n / 10 in
        let d = n % 10 in
        let whole : n ≡ 10 * q + d = omega arith in
        let low : d < 10 = omega arith in
        let text : decimal n ≡ decimal q ++ (48 + d) ∷ [] = ap decimal whole ∙ decimal_push q d (omega arith) low (omega arith) in
        let next = next_digit max q (48 + d) d (digit_test d low) (omega arith) (omega arith) tail in
        ap (λ (t : List ℕ). number_at max (t ++ tail)) text ∙ ap (number_at max) (append_assoc (decimal q) ((48 + d) ∷ []) tail) ∙ front ∙ next
        ∙ ap (λ (k : ℕ). digits_at max k tail) (sym whole)

pub number_again : (max n b : ℕ) (rest : List ℕ) → 0 < n → n ≤ max → max < 2 ^ 32 → is_digit b ≡ false → number_at max (decimal n ++ b ∷ rest) ≡ Ok ((n, b), rest)
number_again max n b rest pos small fits other = reads_decimal n max n (b ∷ rest) (omega arith) pos small fits ∙ next_other max n b other rest

digit_bounds : (b : ℕ) → is_digit b ≡ true → (48 ≤ b) × (b ≤ 57)
digit_bounds b h = (grind arith, grind arith)

-- a number that was read, and the byte after it
pub record IsRead (max m b : ℕ) (bytes rest : List ℕ) : Type 0 where
  pub positive : 0 < m
  pub small : m ≤ max
  pub behind : is_digit b ≡ false
  pub spelled : bytes ≡ decimal m ++ b ∷ rest

-- the digits that were read, and the byte after them, are the text of the number
digits_are : (max n m b' : ℕ) (bytes rest : List ℕ) → max < 2 ^ 32 → 0 < n → n ≤ max → digits_at max n bytes ≡ Ok ((m, b'), rest)
    → IsRead max m b' (decimal n ++ bytes) rest
unfolding digits_at
digits_are max n m b' [] rest fits pos small h = absurd cc
digits_are max n m b' (b ∷ bytes) rest fits pos small h = go (is_digit b) refl (λ d pos' small' k. digits_are max (10 * n + d) m b' bytes rest fits pos' small' k) h
  where
    go : (t : Bool) → is_digit b ≡ t
        → ((d : ℕ) → 0 < 10 * n + d → 10 * n + d ≤ max → digits_at max (10 * n + d) bytes ≡ Ok ((m, b'), rest) → IsRead max m b' (decimal (10 * n + d) ++ bytes) rest)
        → digits_at max n (b ∷ bytes) ≡ Ok ((m, b'), rest) → IsRead max m b' (decimal n ++ b ∷ bytes) rest
    go true digit again k =
        let bounds = digit_bounds b digit in
        elim (cases_lt max (10 * n + (b - 48))) [
          | inl over ↦ absurd (let e = next_over max n b (b - 48) digit refl over bytes in cc)
          | inr within ↦
              let e = next_digit max n b (b - 48) digit refl within bytes in
              let found = again (b - 48) (omega arith) within (sym e ∙ k) in
              let code : 48 + (b - 48) ≡ b = omega arith in
              let text : decimal (10 * n + (b - 48)) ≡ decimal n ++ b ∷ [] = rw code at (decimal_push n (b - 48) pos (omega arith) (omega arith)) in
              record {
                positive = found.positive;
                small = found.small;
                behind = found.behind;
                spelled = sym (append_assoc (decimal n) (b ∷ []) bytes) ∙ ap (λ (t : List ℕ). t ++ bytes) (sym text) ∙ found.spelled;
              }
        ]
    go false other again k =
        let p = parsed_is (n, b) (m, b') bytes rest (sym (next_other max n b other bytes) ∙ k) in
        let same : n ≡ m = ap (λ (x : ℕ × ℕ). x.0) p.0 in
        let same_byte : b ≡ b' = ap (λ (x : ℕ × ℕ). x.1) p.0 in
        record { positive = rw same at pos; small = rw same at small; behind = rw same_byte at other; spelled = rw (same, same_byte, p.1) refl }

-- what a number is read from is its text
pub number_is : (max m b' : ℕ) (bytes rest : List ℕ) → 9 ≤ max → max < 2 ^ 32 → number_at max bytes ≡ Ok ((m, b'), rest) → IsRead max m b' bytes rest
unfolding number_at
number_is max m b' [] rest nine fits h = absurd cc
number_is max m b' (b ∷ bytes) rest nine fits h = go (is_digit b) refl h
  where
    go : (t : Bool) → is_digit b ≡ t → number_at max (b ∷ bytes) ≡ Ok ((m, b'), rest) → IsRead max m b' (b ∷ bytes) rest
    go true digit k = elim (taken (b == 48) (Err Number) (digits_at max (b - 48) bytes) (Ok ((m, b'), rest)) (rw digit at k)) [
      | inl zero' ↦ absurd (let e = zero'.1 in cc)
      | inr other ↦
          let bounds = digit_bounds b digit in
          let differs : b ≢ 48 = λ e. absurd (let f : (48 == 48) ≡ false = rw e at other.0 in cc) in
          let more : 48 < b = omega (arith, bounds.0, differs) in
          let found = digits_are max (b - 48) m b' bytes rest fits (omega arith) (omega arith) other.1 in
          let code : 48 + (b - 48) ≡ b = omega arith in
          let text : decimal (b - 48) ≡ b ∷ [] = rw code at (decimal_digit (b - 48) (omega arith)) in
          record { positive = found.positive; small = found.small; behind = found.behind; spelled = ap (λ (t : List ℕ). t ++ bytes) (sym text) ∙ found.spelled }
    ]
    go false other k = absurd (let e = first_other max b other bytes in cc)

pub number_to_is : (max end m : ℕ) (bytes rest : List ℕ) → 9 ≤ max → max < 2 ^ 32 → number_to max end bytes ≡ Ok (m, rest) → IsRead max m end bytes rest
unfolding number_to
number_to_is max end m bytes rest nine fits e =
    after (number_at max bytes) (λ n. cond (n.0.1 == end) (Ok (n.0.0, n.1)) (Err Word)) (m, rest) e (λ n mid e1 e2.
    let t = guard_then (n.1 == end) (Ok (n.0, mid)) Word (m, rest) e2 in
    let same : n.1 ≡ end = eqb-true _ _ t.0 in
    let p = parsed_is n.0 m mid rest t.1 in
    let found = number_is max n.0 n.1 bytes mid nine fits e1 in
    rw (← same, ← p.0, ← p.1) found)

-- a number that was read is in range
pub up_to : {max m b : ℕ} {bytes rest : List ℕ} → IsRead max m b bytes rest → IsUpTo max m
up_to read = record { positive = read.positive; small = read.small }

pub number_to_again : (max end n : ℕ) (rest : List ℕ) → 0 < n → n ≤ max → max < 2 ^ 32 → is_digit end ≡ false → number_to max end (decimal n ++ end ∷ rest) ≡ Ok (n, rest)
unfolding number_to
number_to_again max end n rest pos small fits other = let same : (end == end) ≡ true = search rules in rw (number_again max n end rest pos small fits other, same) refl

-- ---- rings and messages

pub ring_is : (end : ℕ) (c : RingName) (bytes rest : List ℕ) → ring_at end bytes ≡ Ok (c, rest) → IsRing c × (bytes ≡ ring_text c ++ end ∷ rest)
unfolding ring_at
ring_is end c bytes rest e =
    after (number_to 4294967295 46 bytes) (λ seq. number_to 65535 end seq.1 >>= λ rep. Ok (record { seq = seq.0; rep = rep.0 }, rep.1)) (c, rest) e (λ seq mid e1 more.
    after (number_to 65535 end mid) (λ rep. Ok (record { seq = seq; rep = rep.0 }, rep.1)) (c, rest) more (λ rep left e2 made.
    let p = parsed_is (record { seq = seq; rep = rep }) c left rest made in
    let x = number_to_is 4294967295 46 seq bytes mid (omega arith) (omega arith) e1 in
    let y = number_to_is 65535 end rep mid left (omega arith) (omega arith) e2 in
    let text : bytes ≡ (decimal seq ++ codes "." ++ decimal rep) ++ end ∷ left = x.spelled ∙ ap (λ (t : List ℕ). decimal seq ++ 46 ∷ t) y.spelled ∙ sym (simp append_assoc) in
    let ring : RingName = record { seq = seq; rep = rep } in
    let is : IsRing ring = record { seq_fits = up_to x; rep_fits = up_to y } in
    rw (← p.0, ← p.1) (is, text)))

pub ring_again : (end : ℕ) (c : RingName) (rest : List ℕ) → is_digit end ≡ false → IsRing c → ring_at end (ring_text c ++ end ∷ rest) ≡ Ok (c, rest)
unfolding ring_at
ring_again end c rest other is = grind (arith, append_assoc, number_to_again)

pub message_is : (end : ℕ) (m : MessageName) (bytes rest : List ℕ) → message_at end bytes ≡ Ok (m, rest) → IsMessage m × (bytes ≡ message_text m ++ end ∷ rest)
unfolding message_at
message_is end m bytes rest e =
    after (ring_at 35 bytes) (λ ring. number_to 4294967295 end ring.1 >>= λ number. Ok (record { ring = ring.0; number = number.0 }, number.1)) (m, rest) e (λ ring mid e1 more.
    after (number_to 4294967295 end mid) (λ number. Ok (record { ring = ring; number = number.0 }, number.1)) (m, rest) more (λ number left e2 made.
    let p = parsed_is (record { ring = ring; number = number }) m left rest made in
    let x = ring_is 35 ring bytes mid e1 in
    let y = number_to_is 4294967295 end number mid left (omega arith) (omega arith) e2 in
    let text : bytes ≡ (ring_text ring ++ codes "#" ++ decimal number) ++ end ∷ left = x.1 ∙ ap (λ (t : List ℕ). ring_text ring ++ 35 ∷ t) y.spelled ∙ sym (simp append_assoc) in
    let message : MessageName = record { ring = ring; number = number } in
    let is : IsMessage message = record { ring_fits = x.0; number_fits = up_to y } in
    rw (← p.0, ← p.1) (is, text)))

pub message_again : (end : ℕ) (m : MessageName) (rest : List ℕ) → is_digit end ≡ false → IsMessage m → message_at end (message_text m ++ end ∷ rest) ≡ Ok (m, rest)
unfolding message_at
message_again end m rest other is = grind (arith, append_assoc, ring_again, number_to_again)

-- ---- configurations

regular_is : (end : ℕ) (x : ConfId) (bytes rest : List ℕ) → regular_at end bytes ≡ Ok (x, rest) → IsConf x × (114 ∷ bytes ≡ conf_text x ++ end ∷ rest)
unfolding regular_at
regular_is end x bytes rest e =
    after (ring_at end bytes) (λ ring. Ok (Regular ring.0, ring.1)) (x, rest) e (λ ring left e1 made.
    let p = parsed_is (Regular ring) x left rest made in
    let y = ring_is end ring bytes left e1 in
    let text : 114 ∷ bytes ≡ (codes "r" ++ ring_text ring) ++ end ∷ left = ap (λ (t : List ℕ). 114 ∷ t) y.1 in
    rw (← p.0, ← p.1) (y.0, text))

regular_again : (end : ℕ) (c : RingName) (rest : List ℕ) → is_digit end ≡ false → IsRing c → regular_at end (ring_text c ++ end ∷ rest) ≡ Ok (Regular c, rest)
unfolding regular_at
regular_again end c rest other is = rw (ring_again end c rest other is) refl

transitional_is : (end : ℕ) (x : ConfId) (bytes rest : List ℕ) → transitional_at end bytes ≡ Ok (x, rest) → IsConf x × (116 ∷ bytes ≡ conf_text x ++ end ∷ rest)
unfolding transitional_at
transitional_is end x bytes rest e =
    after (ring_at 47 bytes) (λ next. number_to 65535 end next.1 >>= λ least. Ok (Transitional least.0 next.0, least.1)) (x, rest) e (λ next mid e1 more.
    after (number_to 65535 end mid) (λ least. Ok (Transitional least.0 next, least.1)) (x, rest) more (λ least left e2 made.
    let p = parsed_is (Transitional least next) x left rest made in
    let y = ring_is 47 next bytes mid e1 in
    let z = number_to_is 65535 end least mid left (omega arith) (omega arith) e2 in
    let text : 116 ∷ bytes ≡ (codes "t" ++ ring_text next ++ codes "/" ++ decimal least) ++ end ∷ left = ap (λ (t : List ℕ). 116 ∷ t) (y.1 ∙ ap (λ (t : List ℕ). ring_text next ++ 47 ∷ t) z.spelled ∙ sym (simp append_assoc)) in
    rw (← p.0, ← p.1) ((y.0, up_to z), text)))

transitional_again : (end : ℕ) (next : RingName) (least : ℕ) (rest : List ℕ) → is_digit end ≡ false → IsRing next → IsProcess least → transitional_at end (ring_text next ++ 47 ∷ (decimal least ++ end ∷ rest)) ≡ Ok (Transitional least next, rest)
unfolding transitional_at
transitional_again end next least rest other is fits = grind (arith, ring_again, number_to_again)

pub conf_is : (end : ℕ) (x : ConfId) (bytes rest : List ℕ) → conf_at end bytes ≡ Ok (x, rest) → IsConf x × (bytes ≡ conf_text x ++ end ∷ rest)
unfolding conf_at
conf_is end x bytes rest e =
    after (byte_at bytes) (λ kind. cond (kind.0 == 114) (regular_at end kind.1) (cond (kind.0 == 116) (transitional_at end kind.1) (Err Word))) (x, rest) e (λ kind mid e1 more.
    let whole = byte_is bytes kind mid e1 in
    elim (taken (kind == 114) (regular_at end mid) (cond (kind == 116) (transitional_at end mid) (Err Word)) (Ok (x, rest)) more) [
      | inl r ↦
          let same : kind ≡ 114 = eqb-true _ _ r.0 in
          let found = regular_is end x mid rest r.1 in
          (found.0, whole ∙ ap (λ (k : ℕ). k ∷ mid) same ∙ found.1)
      | inr other ↦
          let t = guard_then (kind == 116) (transitional_at end mid) Word (x, rest) other.1 in
          let same : kind ≡ 116 = eqb-true _ _ t.0 in
          let found = transitional_is end x mid rest t.1 in
          (found.0, whole ∙ ap (λ (k : ℕ). k ∷ mid) same ∙ found.1)
    ])

pub conf_again : (end : ℕ) (x : ConfId) (rest : List ℕ) → is_digit end ≡ false → IsConf x → conf_at end (conf_text x ++ end ∷ rest) ≡ Ok (x, rest)
unfolding conf_at
conf_again end x rest h k = grind (arith, regular_again, append_assoc, transitional_again)
