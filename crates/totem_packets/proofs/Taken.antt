-- A field that is read is spelled so, and what is spelled so is read again.
use Rattle.totem_packets.proofs.Common.{nat_lt, nat_le, ◌==◌, IfSome, ◌≡◌, ℕ, ◌+◌, ◌%◌, ◌^◌, ◌<◌, ◌≤◌, Bool, true, false, cond, List, [], ◌∷◌, ◌++◌, length, take, drop, Option, Some, None, Ok, Err, refl, sym, ap, ◌∙◌, append_assoc, arith, Width, w8, w16, w32, w64, byte_len, from_be_bytes, to_be_bytes, cases_lt, ltb-false, ltb-true, le-ltb, lt-ltb, leb-true, le-leb, eqb-true, ne_eqb, take_at, drop_at, take-append-drop, length-append, length-take, get_or-drop, get_or-take, get_or_past, RingName, IsProcess, IsRing, IsUpTo, IsNumber, ◌>>=◌, Parsed, AreBytes, after, guard_else, parsed_is, append-nil}
use Rattle.std.proofs.lemmas.Bool.Decides.{nat_tests}
use Rattle.std.proofs.lemmas.Nat.{be_bytes_2, be_bytes_4, be_bytes_8, from_be_bytes-to_be_bytes_2, from_be_bytes-to_be_bytes_4, from_be_bytes-to_be_bytes_8}
use Rattle.totem_packets.specs.declared.fault.PacketFault.{PacketFault}
use Rattle.totem_packets.specs.declared.fault.PacketFault.TheVariants.{Short, Range}
use Rattle.totem_packets.specs.Fields.{bytes_at, number_at, above_at, up_to_at, ring_at, payload_at, maybe_at}
use Rattle.totem_packets.specs.Payload.{IsPayload}
use Rattle.totem_packets.specs.Spelling.{number_bytes, ring_bytes, payload_bytes, number_or_zero}

-- ---- bytes

AreBytes-drop : (n : ℕ) (bytes : List ℕ) → AreBytes bytes → AreBytes (drop n bytes)
AreBytes-drop n bytes h i = rw get_or-drop (h (n + i))

AreBytes-take : (n : ℕ) (bytes : List ℕ) → AreBytes bytes → AreBytes (take n bytes)
AreBytes-take n bytes h i = grind (arith, cases_lt, get_or-take, get_or_past, length-take)

-- a text from the front was read, and this holds of the value and the text
pub record IsTaken {Y : Type 0} (Holds : Y → List ℕ → Type 0) (bytes : List ℕ) (y : Y) (rest : List ℕ) : Type 0 where
  pub text : List ℕ
  pub parts : bytes ≡ text ++ rest
  pub rest_fits : AreBytes rest
  pub holds : Holds y text

-- so it is whenever the parser gives a value
pub record IsTaking {Y : Type 0} (Holds : Y → List ℕ → Type 0) (parse : List ℕ → Parsed Y) : Type 0 where
  pub takes : (bytes : List ℕ) (y : Y) (rest : List ℕ) → AreBytes bytes → parse bytes ≡ Ok (y, rest) → IsTaken Holds bytes y rest

-- the text is how the value is spelled, and the value fits
abbrev pub Spells : {Y : Type 0} → (Y → List ℕ) → (Y → Type 0) → Y → List ℕ → Type 0
Spells spell Fits y text = (text ≡ spell y) × Fits y

pub gives_taking : {Y : Type 0} {Holds : Y → List ℕ → Type 0} (y : Y) → Holds y [] → IsTaking Holds (λ bytes. Ok (y, bytes))
gives_taking {Holds = Holds} y holds = record {
  takes = λ bytes z rest fits e.
      let same = parsed_is y z bytes rest e in
      let taken : IsTaken Holds bytes y bytes = record { text = []; parts = refl; rest_fits = fits; holds = holds } in
      rw (← same.0, ← same.1) taken;
}

pub fault_taking : {Y : Type 0} {Holds : Y → List ℕ → Type 0} (fault : PacketFault) → IsTaking Holds (λ bytes. Err fault)
fault_taking fault = record { takes = λ bytes y rest fits e. absurd cc }

pub bind_taking : {A Y : Type 0} {spell : A → List ℕ} {Fits : A → Type 0} {Holds : Y → List ℕ → Type 0} (sub : List ℕ → Parsed A) (k : A × List ℕ → Parsed Y)
    → IsTaking (Spells spell Fits) sub → ((a : A) → Fits a → IsTaking (λ y text. Holds y (spell a ++ text)) (λ bytes. k (a, bytes))) → IsTaking Holds (λ bytes. sub bytes >>= k)
bind_taking {spell = spell} sub k first next = record {
  takes = λ bytes y rest fits e.
      after (sub bytes) k (y, rest) e (λ a mid e1 e2.
      let f = first.takes bytes a mid fits e1 in
      let g = (next a f.holds.1).takes mid y rest f.rest_fits e2 in
      record {
        text = spell a ++ g.text;
        parts = f.parts ∙ ap (λ (t : List ℕ). t ++ mid) f.holds.0 ∙ ap (λ (t : List ℕ). spell a ++ t) g.parts ∙ sym (append_assoc (spell a) g.text rest);
        rest_fits = g.rest_fits;
        holds = g.holds;
      });
}

pub cond_taking : {Y : Type 0} {Holds : Y → List ℕ → Type 0} (t : Bool) (p q : List ℕ → Parsed Y) → (t ≡ true → IsTaking Holds p) → (t ≡ false → IsTaking Holds q) → IsTaking Holds (λ bytes. cond t (p bytes) (q bytes))
cond_taking true p q taking other = record { takes = λ bytes y rest fits e. (taking refl).takes bytes y rest fits e }
cond_taking false p q other taking = record { takes = λ bytes y rest fits e. (taking refl).takes bytes y rest fits e }

pub weaker_taking : {Y : Type 0} {H K : Y → List ℕ → Type 0} (parse : List ℕ → Parsed Y) → IsTaking H parse → ((y : Y) (text : List ℕ) → H y text → K y text) → IsTaking K parse
weaker_taking parse taking so = record {
  takes = λ bytes y rest fits e.
      let f = taking.takes bytes y rest fits e in
      record { text = f.text; parts = f.parts; rest_fits = f.rest_fits; holds = so y f.text f.holds };
}

-- the given number of bytes, from the front
pub bytes_taking : (n : ℕ) → IsTaking (Spells (λ text. text) (λ text. (length text ≡ n) × AreBytes text)) (bytes_at n)
unfolding bytes_at
bytes_taking n = record {
  takes = λ bytes text rest fits e.
      let g = guard_else (nat_lt (length bytes) n) (Ok (take n bytes, drop n bytes)) Short (text, rest) e in
      let long : n ≤ length bytes = ltb-false _ _ g.0 in
      let same = parsed_is (take n bytes) text (drop n bytes) rest g.1 in
      rw (← same.0, ← same.1) (record {
        text = take n bytes;
        parts = sym (take-append-drop n bytes);
        rest_fits = AreBytes-drop n bytes fits;
        holds = (refl, (omega (arith, length-take n bytes), AreBytes-take n bytes fits));
      });
}

pub bytes_again : (n : ℕ) (text rest : List ℕ) → length text ≡ n → bytes_at n (text ++ rest) ≡ Ok (text, rest)
unfolding bytes_at
bytes_again n text rest len = grind (arith, le-ltb, length-append, take_at, drop_at)

-- ---- numbers

-- a number below the limit is written as the bytes of the width, and back
pub record IsWide (w : Width) (limit : ℕ) : Type 0 where
  pub len : (n : ℕ) → length (to_be_bytes w n) ≡ byte_len w
  pub back : (bytes : List ℕ) → length bytes ≡ byte_len w → AreBytes bytes → to_be_bytes w (from_be_bytes w bytes) ≡ bytes
  pub again : (n : ℕ) → n < limit → from_be_bytes w (to_be_bytes w n) ≡ n
  pub below : (bytes : List ℕ) → AreBytes bytes → from_be_bytes w bytes < limit

one_byte : (bytes : List ℕ) → length bytes ≡ 1 → AreBytes bytes → to_be_bytes w8 (from_be_bytes w8 bytes) ≡ bytes
one_byte [] len fits = absurd (omega arith)
one_byte (b ∷ []) len fits = let small : b % 256 ≡ b = omega (arith, fits 0) in ap (λ (x : ℕ). x ∷ []) small
one_byte (b ∷ c ∷ bytes) len fits = absurd (omega arith)

pub wide8 : IsWide w8 (2 ^ 8)
wide8 = grind (arith, one_byte)

pub wide16 : IsWide w16 (2 ^ 16)
wide16 = grind (arith, be_bytes_2, from_be_bytes-to_be_bytes_2)

pub wide32 : IsWide w32 (2 ^ 32)
wide32 = grind (arith, be_bytes_4, from_be_bytes-to_be_bytes_4)

pub wide64 : IsWide w64 (2 ^ 64)
wide64 = grind (arith, be_bytes_8, from_be_bytes-to_be_bytes_8)

pub number_taking : (w : Width) (limit : ℕ) → IsWide w limit → IsTaking (Spells (number_bytes w) (λ n. n < limit)) (number_at w)
unfolding number_at number_bytes
number_taking w limit wide = bind_taking _ _ (bytes_taking (byte_len w)) (λ front f. gives_taking _ (append-nil front ∙ sym (wide.back front f.0 f.1), wide.below front f.1))

pub number_again : (w : Width) (limit : ℕ) (wide : IsWide w limit) (n : ℕ) (rest : List ℕ) → n < limit → number_at w (number_bytes w n ++ rest) ≡ Ok (n, rest)
unfolding number_at number_bytes
number_again w limit wide n rest lt = rw (bytes_again (byte_len w) (to_be_bytes w n) rest (wide.len n), wide.again n lt) refl

pub above_taking : (w : Width) (limit : ℕ) → IsWide w limit → (least : ℕ) → IsTaking (Spells (number_bytes w) (λ n. (n < limit) × (least < n))) (above_at w least)
unfolding above_at
above_taking w limit wide least =
    bind_taking _ _ (number_taking w limit wide) (λ n small. cond_taking _ _ _ (λ test. gives_taking n (append-nil (number_bytes w n), (small, ltb-true _ _ test))) (λ test. fault_taking Range))

pub above_again : (w : Width) (limit : ℕ) (wide : IsWide w limit) (least n : ℕ) (rest : List ℕ) → n < limit → least < n → above_at w least (number_bytes w n ++ rest) ≡ Ok (n, rest)
unfolding above_at
above_again w limit wide least n rest lt above = let test : nat_lt least n ≡ true = lt-ltb _ _ above in rw (number_again w limit wide n rest lt, test) refl

-- a number from 1
pub positive_taking : (w : Width) (limit max : ℕ) → IsWide w limit → limit ≡ max + 1 → IsTaking (Spells (number_bytes w) (IsUpTo max)) (above_at w 0)
positive_taking w limit max wide e = weaker_taking _ (above_taking w limit wide 0) (λ n text f. (f.0, record { positive = f.1.1; small = omega (arith, f.1.0, e) }))

pub number32_taking : IsTaking (Spells (number_bytes w32) IsNumber) (above_at w32 0)
number32_taking = positive_taking w32 (2 ^ 32) 4294967295 wide32 (omega arith)

pub number32_again : (n : ℕ) (rest : List ℕ) → IsNumber n → above_at w32 0 (number_bytes w32 n ++ rest) ≡ Ok (n, rest)
number32_again n rest fits = above_again w32 (2 ^ 32) wide32 0 n rest (omega (arith, fits.small)) fits.positive

pub process_taking : IsTaking (Spells (number_bytes w16) IsProcess) (above_at w16 0)
process_taking = positive_taking w16 (2 ^ 16) 65535 wide16 (omega arith)

pub process_again : (n : ℕ) (rest : List ℕ) → IsProcess n → above_at w16 0 (number_bytes w16 n ++ rest) ≡ Ok (n, rest)
process_again n rest fits = above_again w16 (2 ^ 16) wide16 0 n rest (omega (arith, fits.small)) fits.positive

pub up_to_taking : (w : Width) (limit : ℕ) → IsWide w limit → (most : ℕ) → IsTaking (Spells (number_bytes w) (λ n. n ≤ most)) (up_to_at w most)
unfolding up_to_at
up_to_taking w limit wide most =
    bind_taking _ _ (number_taking w limit wide) (λ n small. cond_taking _ _ _ (λ test. gives_taking n (append-nil (number_bytes w n), leb-true _ _ test)) (λ test. fault_taking Range))

pub up_to_again : (w : Width) (limit : ℕ) (wide : IsWide w limit) (most n : ℕ) (rest : List ℕ) → n < limit → n ≤ most → up_to_at w most (number_bytes w n ++ rest) ≡ Ok (n, rest)
unfolding up_to_at
up_to_again w limit wide most n rest lt few = let test : nat_le n most ≡ true = le-leb _ _ few in rw (number_again w limit wide n rest lt, test) refl

-- the byte of a kind, and the parser of its kind after it
pub kind_taking : IsTaking (Spells (number_bytes w8) (λ n. n < 2 ^ 8)) (number_at w8)
kind_taking = number_taking w8 (2 ^ 8) wide8

pub kind_again : (kind : ℕ) (rest : List ℕ) → kind < 2 ^ 8 → number_at w8 (number_bytes w8 kind ++ rest) ≡ Ok (kind, rest)
kind_again kind rest lt = number_again w8 (2 ^ 8) wide8 kind rest lt

pub kind_or : {Y : Type 0} {spell : Y → List ℕ} {Fits : Y → Type 0} (n kind : ℕ) (p q : List ℕ → Parsed Y) → IsTaking (λ y text. Spells spell Fits y (number_bytes w8 n ++ text)) p
    → IsTaking (λ y text. Spells spell Fits y (number_bytes w8 kind ++ text)) q → IsTaking (λ y text. Spells spell Fits y (number_bytes w8 kind ++ text)) (λ bytes. cond (kind == n) (p bytes) (q bytes))
kind_or n kind p q taking other = cond_taking (kind == n) p q (λ e. rw (eqb-true _ _ e) taking) (λ e. other)

-- ---- rings and payloads

pub ring_taking : IsTaking (Spells ring_bytes IsRing) ring_at
unfolding ring_at ring_bytes
ring_taking = bind_taking _ _ number32_taking (λ seq f. bind_taking _ _ process_taking (λ rep g. gives_taking _ (simp append-nil, record { seq_fits = f; rep_fits = g })))

pub ring_again : (c : RingName) (rest : List ℕ) → IsRing c → ring_at (ring_bytes c ++ rest) ≡ Ok (c, rest)
unfolding ring_at ring_bytes
ring_again c rest fits = rw (append_assoc (number_bytes w32 c.seq) (number_bytes w16 c.rep) rest, number32_again c.seq (number_bytes w16 c.rep ++ rest) fits.seq_fits, process_again c.rep rest fits.rep_fits) refl

pub payload_taking : IsTaking (Spells payload_bytes IsPayload) payload_at
unfolding payload_at payload_bytes
payload_taking = bind_taking _ _ (up_to_taking w16 (2 ^ 16) wide16 1024) (λ len few. weaker_taking _ (bytes_taking len) (λ payload text f. (rw (f.0, f.1.0) refl, omega (arith, few, f.1.0))))

pub payload_again : (payload rest : List ℕ) → length payload ≤ 1024 → payload_at (payload_bytes payload ++ rest) ≡ Ok (payload, rest)
unfolding payload_at payload_bytes
payload_again payload rest few =
    rw (append_assoc (number_bytes w16 (length payload)) payload rest, up_to_again w16 (2 ^ 16) wide16 1024 (length payload) (payload ++ rest) (omega arith) few, bytes_again (length payload) payload rest refl) refl

-- ---- a process that may be missing

pub maybe_taking : IsTaking (Spells (λ o. number_bytes w16 (number_or_zero o)) (λ o. IfSome o IsProcess)) maybe_at
unfolding maybe_at
maybe_taking = bind_taking _ _ (number_taking w16 (2 ^ 16) wide16) (λ n small. gives_taking _ (grind (arith, nat_tests, append-nil)))

pub maybe_again : (o : Option ℕ) (rest : List ℕ) → IfSome o IsProcess → maybe_at (number_bytes w16 (number_or_zero o) ++ rest) ≡ Ok (o, rest)
unfolding maybe_at
maybe_again None rest fits = rw (number_again w16 (2 ^ 16) wide16 0 rest (omega arith)) refl
maybe_again (Some n) rest fits =
    let test : (n == 0) ≡ false = ne_eqb _ _ (λ e. omega (arith, fits.positive, e)) in
    rw (number_again w16 (2 ^ 16) wide16 n rest (omega (arith, fits.small)), test) refl
