-- What a parser returns doesn't change with what follows, unless the text was too short.
use Rattle.std.proofs.Common.{arith}
use Rattle.totem_names.proofs.Common.{nat_le, ◌==◌, ◌≡◌, ℕ, ◌+◌, ◌-◌, ◌*◌, List, [], ◌∷◌, ◌++◌, Bool, true, false, cond, Ok, Err, refl, sym, ap, subst, append_assoc, ◌∙◌, append-nil, Parsed, Follows, Steady, FirstBreak, is_short, ◌>>=◌}
use Rattle.totem_names.specs.declared.fault.TextFault.{TextFault}
use Rattle.totem_names.specs.declared.fault.TextFault.TheVariants.{Word, Number, Truncated}
use Rattle.totem_names.specs.Numbers.{is_digit, byte_at, word_at, digits_at, number_at, number_to}
use Rattle.totem_names.specs.Parsers.{ring_at, message_at, regular_at, transitional_at, conf_at}

-- ---- results that stay

pub gives_steady : {Y : Type 0} (y : Y) → Steady {Y = Y} (λ bytes. Ok (y, bytes))
gives_steady y = record { stays = λ bytes more. refl }

pub fault_steady : {Y : Type 0} (f : TextFault) → Steady {Y = Y} (λ bytes. Err f)
fault_steady f = record { stays = λ bytes more h. refl }

pub bind_steady : {A Y : Type 0} (sub : List ℕ → Parsed A) (k : A × List ℕ → Parsed Y) → Steady sub → ((a : A) → Steady (λ bytes. k (a, bytes))) → Steady (λ bytes. sub bytes >>= k)
bind_steady {A = A} {Y = Y} sub k first next = record { stays = λ bytes more. go more (sub bytes) (sub (bytes ++ more)) (first.stays bytes more) }
  where
    go : (more : List ℕ) (now later : Parsed A) → Follows more now later → Follows {Y = Y} more (now >>= k) (later >>= k)
    go more (Ok x) later h = rw h ((next x.0).stays x.1 more)
    go more (Err f) later h = λ long. rw (h long) refl

pub cond_steady : {Y : Type 0} (t : Bool) (p q : List ℕ → Parsed Y) → Steady p → Steady q → Steady (λ bytes. cond t (p bytes) (q bytes))
cond_steady true p q hp hq = record { stays = λ bytes more. hp.stays bytes more }
cond_steady false p q hp hq = record { stays = λ bytes more. hq.stays bytes more }

pub byte_steady : Steady byte_at
byte_steady = grind arith

pub word_steady : (fault : TextFault) (word : List ℕ) → Steady (word_at fault word)
unfolding word_at
word_steady fault [] = gives_steady tt
word_steady fault (w ∷ word) = bind_steady byte_at (λ b. cond (b.0 == w) (word_at fault word b.1) (Err fault)) byte_steady (λ b. cond_steady (b == w) (word_at fault word) (λ bytes. Err fault) (word_steady fault word) (fault_steady fault))

digits_stay : (max n : ℕ) (bytes more : List ℕ) → Follows more (digits_at max n bytes) (digits_at max n (bytes ++ more))
unfolding digits_at
digits_stay max n [] more = λ h. absurd cc
digits_stay max n (b ∷ bytes) more = go (is_digit b) (nat_le (10 * n + (b - 48)) max) (digits_stay max (10 * n + (b - 48)) bytes more)
  where
    go : (t u : Bool) → Follows more (digits_at max (10 * n + (b - 48)) bytes) (digits_at max (10 * n + (b - 48)) (bytes ++ more))
        → Follows {Y = ℕ × ℕ} more (cond t (cond u (digits_at max (10 * n + (b - 48)) bytes) (Err Number)) (Ok ((n, b), bytes))) (cond t (cond u (digits_at max (10 * n + (b - 48)) (bytes ++ more)) (Err Number)) (Ok ((n, b), bytes ++ more)))
    go true true h = h
    go true false h = λ long. refl
    go false u h = refl

number_stays : (max : ℕ) (bytes more : List ℕ) → Follows more (number_at max bytes) (number_at max (bytes ++ more))
unfolding number_at
number_stays max bytes more = grind (arith, digits_stay)

pub number_steady : (max : ℕ) → Steady (number_at max)
number_steady max = record { stays = number_stays max }

pub number_to_steady : (max end : ℕ) → Steady (number_to max end)
unfolding number_to
number_to_steady max end = bind_steady (number_at max) (λ n. cond (n.0.1 == end) (Ok (n.0.0, n.1)) (Err Word)) (number_steady max) (λ n. cond_steady (n.1 == end) (λ bytes. Ok (n.0, bytes)) (λ bytes. Err Word) (gives_steady n.0) (fault_steady Word))

pub ring_steady : (end : ℕ) → Steady (ring_at end)
unfolding ring_at
ring_steady end = bind_steady _ _ (number_to_steady 4294967295 46) (λ seq. bind_steady _ _ (number_to_steady 65535 end) (λ rep. gives_steady _))

pub message_steady : (end : ℕ) → Steady (message_at end)
unfolding message_at
message_steady end = bind_steady _ _ (ring_steady 35) (λ ring. bind_steady _ _ (number_to_steady 4294967295 end) (λ number. gives_steady _))

regular_steady : (end : ℕ) → Steady (regular_at end)
unfolding regular_at
regular_steady end = bind_steady _ _ (ring_steady end) (λ ring. gives_steady _)

transitional_steady : (end : ℕ) → Steady (transitional_at end)
unfolding transitional_at
transitional_steady end = bind_steady _ _ (ring_steady 47) (λ next. bind_steady _ _ (number_to_steady 65535 end) (λ least. gives_steady _))

pub conf_steady : (end : ℕ) → Steady (conf_at end)
unfolding conf_at
conf_steady end = bind_steady _ _ byte_steady (λ kind. cond_steady _ _ _ (regular_steady end) (cond_steady _ _ _ (transitional_steady end) (fault_steady Word)))

-- ---- the first byte that breaks a rule

short_is : (f : TextFault) → is_short f ≡ true → f ≡ Truncated
short_is f h = grind arith

first_from : {Y : Type 0} (parse : List ℕ → Parsed Y) (f : TextFault) → Steady parse → is_short f ≡ false → (front bytes : List ℕ) → parse front ≡ Err Truncated → parse (front ++ bytes) ≡ Err f → FirstBreak parse (front ++ bytes) f
first_from parse f steady long front [] before e =
    let same : Err Truncated ≡ parse (front ++ []) = sym before ∙ ap parse (sym (append-nil front)) in
    absurd (let k : Err Truncated ≡ Err f = same ∙ e in let j : Truncated ≡ f = cc in let test : is_short Truncated ≡ is_short f = ap is_short j in cc)
first_from {Y = Y} parse f steady long front (b ∷ bytes) before e =
    go (parse (front ++ b ∷ [])) refl (λ short. first_from parse f steady long (front ++ b ∷ []) bytes short (ap parse regrouped ∙ e))
  where
    regrouped : (front ++ b ∷ []) ++ bytes ≡ front ++ b ∷ bytes
    regrouped = append_assoc front (b ∷ []) bytes

    go : (r : Parsed Y) → parse (front ++ b ∷ []) ≡ r → (parse (front ++ b ∷ []) ≡ Err Truncated → FirstBreak parse ((front ++ b ∷ []) ++ bytes) f) → FirstBreak parse (front ++ b ∷ bytes) f
    go (Ok x) h again =
        let later : parse ((front ++ b ∷ []) ++ bytes) ≡ Ok (x.0, x.1 ++ bytes) = (let s = steady.stays (front ++ b ∷ []) bytes in rw h at s) in
        absurd (let k = sym later ∙ ap parse regrouped ∙ e in cc)
    go (Err g) h again = byt (is_short g) refl
      where
        byt : (t : Bool) → is_short g ≡ t → FirstBreak parse (front ++ b ∷ bytes) f
        byt true s = subst (λ (w : List ℕ). FirstBreak parse w f) regrouped (again (h ∙ ap (λ (k : TextFault). Err k) (short_is g s)))
        byt false s =
            let later : parse ((front ++ b ∷ []) ++ bytes) ≡ Err g = (let k = steady.stays (front ++ b ∷ []) bytes in (rw h at k) s) in
            let same : ◌≡◌ {A = Parsed Y} (Err g) (Err f) = sym later ∙ ap parse regrouped ∙ e in
            record { front = front; byte = b; rest = bytes; whole = refl; before = before; at = h ∙ same }

-- the fault of a text is that of its first byte that breaks a rule
pub first_break : {Y : Type 0} (parse : List ℕ → Parsed Y) (bytes : List ℕ) (f : TextFault) → Steady parse → parse [] ≡ Err Truncated → is_short f ≡ false → parse bytes ≡ Err f → FirstBreak parse bytes f
first_break parse bytes f steady empty long e = first_from parse f steady long [] bytes empty e
