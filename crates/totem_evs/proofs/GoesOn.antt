-- Where a parser finds its text too short, some text continues it: the steps of parsers, words, numbers and names.
use Rattle.totem_evs.proofs.Common.{decimal, ◌==◌, codes, ◌≡◌, ℕ, ◌+◌, ◌-◌, ◌*◌, ◌^◌, ◌<◌, ◌≤◌, inl, inr, ◌⊎◌, List, [], ◌∷◌, ◌++◌, Ok, Err, Bool, true, false, cond, refl, sym, ◌∙◌, ap, subst, append_assoc, arith, cases_lt, eqb-true, append-nil, TextFault, ConfId, Regular, Transitional, RingName, MessageName, Parsed, is_short, ◌>>=◌, next_digit, next_over, next_other, decimal_push, byte_is, number_to_is, ring_is}
use Rattle.std.proofs.lemmas.Fmt.{decimal_digit}
use Rattle.totem_names.specs.declared.fault.TextFault.TheVariants.{Word, Truncated}
use Rattle.totem_names.specs.Numbers.{is_digit, byte_at, word_at, digits_at, number_at, number_to}
use Rattle.totem_names.specs.Parsers.{ring_at, message_at, regular_at, transitional_at, conf_at}
use Rattle.totem_names.specs.Texts.{ring_text, conf_text, message_text, IsUpTo, IsRing, IsConf, IsMessage}
use Rattle.totem_evs.proofs.PartFaults.{bind_case, byte_pick}

-- ---- steps

-- a result that finds the bytes too short, where some text of this kind continues them
pub record Cut {A : Type 0} (r : Parsed A) (Is : List ℕ → Type 0) (bytes : List ℕ) : Type 0 where
  pub goes : r ≡ Err Truncated → (more : List ℕ) × Is (bytes ++ more)

-- a text and what follows it
pub record Splits {B : Type 0} (r : Parsed B) (Is : List ℕ → Type 0) (bytes rest : List ℕ) : Type 0 where
  pub text : List ℕ
  pub whole : bytes ≡ text ++ rest
  pub next : Cut r (λ u. Is (text ++ u)) rest

pub ok_cut : {A : Type 0} (x : A × List ℕ) (Is : List ℕ → Type 0) (bytes : List ℕ) → Cut {A = A} (Ok x) Is bytes
ok_cut x Is bytes = record { goes = λ e. absurd cc }

pub fault_cut : {A : Type 0} (f : TextFault) (Is : List ℕ → Type 0) (bytes : List ℕ) → is_short f ≡ false → Cut {A = A} (Err f) Is bytes
fault_cut {A = A} f Is bytes long = record { goes = λ e. absurd (let same : f ≡ Truncated = cc in let test : is_short f ≡ is_short Truncated = ap is_short same in cc) }

pub test_cut : {A : Type 0} (t : Bool) (p q : Parsed A) (Is : List ℕ → Type 0) (bytes : List ℕ) → (t ≡ true → Cut p Is bytes) → (t ≡ false → Cut q Is bytes) → Cut (cond t p q) Is bytes
test_cut true p q Is bytes yes' no' = yes' refl
test_cut false p q Is bytes yes' no' = no' refl

-- one after the other: a text of the first continues as a text of both
pub bind_cut : {A B : Type 0} (r : Parsed A) (k : A × List ℕ → Parsed B) (First Is : List ℕ → Type 0) (bytes : List ℕ)
    → Cut r First bytes
    → ((t : List ℕ) → First t → (u : List ℕ) × Is (t ++ u))
    → ((a : A) (rest : List ℕ) → r ≡ Ok (a, rest) → Splits (k (a, rest)) Is bytes rest)
    → Cut (r >>= k) Is bytes
bind_cut r k First Is bytes first some next = record {
  goes = λ e. bind_case r k Truncated e
      (λ short.
      let found = first.goes short in
      let more = some (bytes ++ found.0) found.1 in
      (found.0 ++ more.0, subst Is (append_assoc bytes found.0 more.0) more.1))
      (λ a rest same later.
      let s = next a rest same in
      let found = s.next.goes later in
      (found.0, subst Is (sym (append_assoc s.text rest found.0) ∙ ap (λ (t : List ℕ). t ++ found.0) (sym s.whole)) found.1));
}

-- the last thing
pub last_cut : {A B : Type 0} (r : Parsed A) (f : A × List ℕ → B × List ℕ) (First Is : List ℕ → Type 0) (bytes : List ℕ) → Cut r First bytes → ((t : List ℕ) → First t → Is t) → Cut {A = B} (r >>= λ x. Ok (f x)) Is bytes
last_cut r f First Is bytes first so = record {
  goes = λ e. bind_case r (λ x. Ok (f x)) Truncated e
      (λ short. let found = first.goes short in (found.0, so (bytes ++ found.0) found.1)) (λ a rest same later. absurd cc);
}

-- a text of one kind is one of another
pub cut_as : {A : Type 0} (r : Parsed A) (First Is : List ℕ → Type 0) (bytes : List ℕ) → Cut r First bytes → ((t : List ℕ) → First t → Is t) → Cut r Is bytes
cut_as r First Is bytes first so = record { goes = λ e. let found = first.goes e in (found.0, so (bytes ++ found.0) found.1) }

-- a text that this letter begins
pub led_cut : {A : Type 0} (c letter : ℕ) (r : Parsed A) (Is : List ℕ → Type 0) (rest : List ℕ) → Cut r (λ u. Is (letter ∷ u)) rest → (c == letter) ≡ true → Cut r Is (c ∷ rest)
led_cut c letter r Is rest found h = let same : c ≡ letter = eqb-true c letter h in rw same (record { goes = λ e. found.goes e })

-- ---- bytes and words

pub byte_cut : (b : ℕ) (bytes : List ℕ) → Cut (byte_at bytes) (λ t. t ≡ b ∷ []) bytes
byte_cut b [] = record { goes = λ e. (b ∷ [], refl) }
byte_cut b (c ∷ bytes) = record { goes = λ e. absurd cc }

pub word_cut : (fault : TextFault) (word bytes : List ℕ) → is_short fault ≡ false → Cut (word_at fault word bytes) (λ t. t ≡ word) bytes
unfolding word_at
word_cut fault [] bytes long = ok_cut _ _ _
word_cut fault (w ∷ word) bytes long =
    bind_cut _ _ _ _ _ (byte_cut w bytes) (λ t e. (word, rw e refl)) (λ b rest e. record {
      text = b ∷ [];
      whole = byte_is bytes b rest e;
      next = test_cut _ _ _ _ _
          (λ h. let same : b ≡ w = eqb-true b w h in cut_as _ _ _ _ (word_cut fault word rest long) (λ t k. rw (same, k) refl))
          (λ h. fault_cut _ _ _ long);
    })

-- ---- numbers

pub digit_low : (b : ℕ) → is_digit b ≡ true → (48 ≤ b) × (b ≤ 57)
digit_low b h = (grind arith, grind arith)

-- the digits so far are those of a number in range
digits_cut : (max n : ℕ) (bytes : List ℕ) → max < 2 ^ 32 → 0 < n → n ≤ max → digits_at max n bytes ≡ Err Truncated → (m : ℕ) × IsUpTo max m × (decimal n ++ bytes ≡ decimal m)
unfolding digits_at
digits_cut max n [] fits pos small e = (n, record { positive = pos; small = small }, append-nil (decimal n))
digits_cut max n (b ∷ bytes) fits pos small e = go (is_digit b) refl (λ d pos' small' k. digits_cut max (10 * n + d) bytes fits pos' small' k) e
  where
    go : (t : Bool) → is_digit b ≡ t
        → ((d : ℕ) → 0 < 10 * n + d → 10 * n + d ≤ max → digits_at max (10 * n + d) bytes ≡ Err Truncated → (m : ℕ) × IsUpTo max m × (decimal (10 * n + d) ++ bytes ≡ decimal m))
        → digits_at max n (b ∷ bytes) ≡ Err Truncated → (m : ℕ) × IsUpTo max m × (decimal n ++ b ∷ bytes ≡ decimal m)
    go true digit again k =
        let bounds = digit_low b digit in
        elim (cases_lt max (10 * n + (b - 48))) [
          | inl over ↦ absurd (let e = next_over max n b (b - 48) digit refl over bytes in cc)
          | inr within ↦
              let e = next_digit max n b (b - 48) digit refl within bytes in
              let found = again (b - 48) (omega arith) within (sym e ∙ k) in
              let code : 48 + (b - 48) ≡ b = omega arith in
              let text : decimal (10 * n + (b - 48)) ≡ decimal n ++ b ∷ [] = rw code at (decimal_push n (b - 48) pos (omega arith) (omega arith)) in
              (found.0, found.1, sym (append_assoc (decimal n) (b ∷ []) bytes) ∙ ap (λ (t : List ℕ). t ++ bytes) (sym text) ∙ found.2)
        ]
    go false other again k = absurd (let e = next_other max n b other bytes in cc)

-- nothing, or the digits of a number in range
pub number_cut : (max : ℕ) (bytes : List ℕ) → 9 ≤ max → max < 2 ^ 32 → number_at max bytes ≡ Err Truncated → (bytes ≡ []) ⊎ ((n : ℕ) × IsUpTo max n × (bytes ≡ decimal n))
unfolding number_at
number_cut max bytes h k m = grind (arith, digit_low, digits_cut, decimal_digit)

-- a number in range, and a byte after it
abbrev pub NumberTo : ℕ → ℕ → List ℕ → Type 0
NumberTo max end t = (n : ℕ) × IsUpTo max n × (t ≡ decimal n ++ end ∷ [])

pub number_to_cut : (max end : ℕ) (bytes : List ℕ) → 9 ≤ max → max < 2 ^ 32 → Cut (number_to max end bytes) (NumberTo max end) bytes
unfolding number_to
number_to_cut max end bytes nine fits =
    record {
      goes = λ e. bind_case (number_at max bytes) (λ n. cond (n.0.1 == end) (Ok (n.0.0, n.1)) (Err Word)) Truncated e
          (λ short. ends (number_cut max bytes nine fits short))
          (λ x rest same later. byte_pick x.1 end _ _ _ later (λ h k. absurd cc) (λ k. absurd cc));
    }
  where
    ends : (bytes ≡ []) ⊎ ((n : ℕ) × IsUpTo max n × (bytes ≡ decimal n)) → (more : List ℕ) × NumberTo max end (bytes ++ more)
    ends (inl none) = (decimal 1 ++ end ∷ [], (1, record { positive = omega arith; small = omega arith }, rw none refl))
    ends (inr x) = (end ∷ [], (x.0, x.1, ap (λ (t : List ℕ). t ++ end ∷ []) x.2))

-- ---- names

abbrev pub RingTo : ℕ → List ℕ → Type 0
RingTo end t = (c : RingName) × IsRing c × (t ≡ ring_text c ++ end ∷ [])

pub one_is : (max : ℕ) → 9 ≤ max → IsUpTo max 1
one_is max nine = record { positive = omega arith; small = omega arith }

ring_parts : (s r rest : List ℕ) (end : ℕ) → (s ++ 46 ∷ []) ++ (r ++ end ∷ rest) ≡ (s ++ codes "." ++ r) ++ end ∷ rest
ring_parts s r rest end = simp append_assoc

pub ring_cut : (end : ℕ) (bytes : List ℕ) → Cut (ring_at end bytes) (RingTo end) bytes
unfolding ring_at
ring_cut end bytes =
    bind_cut _ _ _ _ _ (number_to_cut 4294967295 46 bytes (omega arith) (omega arith))
    (λ t x. (decimal 1 ++ end ∷ [], (record { seq = x.0; rep = 1 }, record { seq_fits = x.1; rep_fits = one_is 65535 (omega arith) }, ap (λ (k : List ℕ). k ++ (decimal 1 ++ end ∷ [])) x.2 ∙ ring_parts (decimal x.0) (decimal 1) [] end)))
    (λ seq rest e.
    let y = number_to_is 4294967295 46 seq bytes rest (omega arith) (omega arith) e in
    record {
      text = decimal seq ++ 46 ∷ [];
      whole = y.spelled ∙ sym (append_assoc (decimal seq) (46 ∷ []) rest);
      next = last_cut _ _ _ _ _ (number_to_cut 65535 end rest (omega arith) (omega arith))
          (λ t x. (record { seq = seq; rep = x.0 }, record { seq_fits = record { positive = y.positive; small = y.small }; rep_fits = x.1 }, ap (λ (k : List ℕ). (decimal seq ++ 46 ∷ []) ++ k) x.2 ∙ ring_parts (decimal seq) (decimal x.0) [] end));
    })

-- the first ring
abbrev pub first_ring : RingName
first_ring = record { seq = 1; rep = 1 }

pub first_ring_is : IsRing first_ring
first_ring_is = record { seq_fits = one_is 4294967295 (omega arith); rep_fits = one_is 65535 (omega arith) }

abbrev pub MessageTo : ℕ → List ℕ → Type 0
MessageTo end t = (m : MessageName) × IsMessage m × (t ≡ message_text m ++ end ∷ [])

message_parts : (c n : List ℕ) (end : ℕ) → (c ++ 35 ∷ []) ++ (n ++ end ∷ []) ≡ (c ++ codes "#" ++ n) ++ end ∷ []
message_parts c n end = simp append_assoc

pub message_cut : (end : ℕ) (bytes : List ℕ) → Cut (message_at end bytes) (MessageTo end) bytes
unfolding message_at
message_cut end bytes =
    bind_cut _ _ _ _ _ (ring_cut 35 bytes)
    (λ t x. (decimal 1 ++ end ∷ [], (record { ring = x.0; number = 1 }, record { ring_fits = x.1; number_fits = one_is 4294967295 (omega arith) }, ap (λ (k : List ℕ). k ++ (decimal 1 ++ end ∷ [])) x.2 ∙ message_parts (ring_text x.0) (decimal 1) end)))
    (λ ring rest e.
    let y = ring_is 35 ring bytes rest e in
    record {
      text = ring_text ring ++ 35 ∷ [];
      whole = y.1 ∙ sym (append_assoc (ring_text ring) (35 ∷ []) rest);
      next = last_cut _ _ _ _ _ (number_to_cut 4294967295 end rest (omega arith) (omega arith))
          (λ t x. (record { ring = ring; number = x.0 }, record { ring_fits = y.0; number_fits = x.1 }, ap (λ (k : List ℕ). (ring_text ring ++ 35 ∷ []) ++ k) x.2 ∙ message_parts (ring_text ring) (decimal x.0) end));
    })

abbrev pub ConfTo : ℕ → List ℕ → Type 0
ConfTo end t = (x : ConfId) × IsConf x × (t ≡ conf_text x ++ end ∷ [])

regular_cut : (end : ℕ) (bytes : List ℕ) → Cut (regular_at end bytes) (λ u. ConfTo end (114 ∷ u)) bytes
unfolding regular_at
regular_cut end bytes =
    last_cut _ _ _ _ _ (ring_cut end bytes) (λ t x. (Regular x.0, x.1, ap (λ (k : List ℕ). 114 ∷ k) x.2))

transitional_parts : (c n : List ℕ) (end : ℕ) → 116 ∷ ((c ++ 47 ∷ []) ++ (n ++ end ∷ [])) ≡ (codes "t" ++ c ++ codes "/" ++ n) ++ end ∷ []
transitional_parts c n end = simp append_assoc

transitional_cut : (end : ℕ) (bytes : List ℕ) → Cut (transitional_at end bytes) (λ u. ConfTo end (116 ∷ u)) bytes
unfolding transitional_at
transitional_cut end bytes =
    bind_cut _ _ _ _ _ (ring_cut 47 bytes)
    (λ t x. (decimal 1 ++ end ∷ [], (Transitional 1 x.0, (x.1, one_is 65535 (omega arith)), ap (λ (k : List ℕ). 116 ∷ (k ++ (decimal 1 ++ end ∷ []))) x.2 ∙ transitional_parts (ring_text x.0) (decimal 1) end)))
    (λ next rest e.
    let y = ring_is 47 next bytes rest e in
    record {
      text = ring_text next ++ 47 ∷ [];
      whole = y.1 ∙ sym (append_assoc (ring_text next) (47 ∷ []) rest);
      next = last_cut _ _ _ _ _ (number_to_cut 65535 end rest (omega arith) (omega arith))
          (λ t x. (Transitional x.0 next, (y.0, x.1), ap (λ (k : List ℕ). 116 ∷ ((ring_text next ++ 47 ∷ []) ++ k)) x.2 ∙ transitional_parts (ring_text next) (decimal x.0) end));
    })

pub conf_cut : (end : ℕ) (bytes : List ℕ) → Cut (conf_at end bytes) (ConfTo end) bytes
unfolding conf_at
conf_cut end [] = record { goes = λ e. (114 ∷ (ring_text first_ring ++ end ∷ []), (Regular first_ring, first_ring_is, refl)) }
conf_cut end (kind ∷ rest) =
    test_cut (kind == 114) (regular_at end rest) (cond (kind == 116) (transitional_at end rest) (Err Word)) _ _
    (led_cut kind 114 _ _ _ (regular_cut end rest))
    (λ h. test_cut (kind == 116) (transitional_at end rest) (Err Word) _ _
    (led_cut kind 116 _ _ _ (transitional_cut end rest))
    (λ h. fault_cut Word _ _ refl))
