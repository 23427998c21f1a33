-- Readers that continue, byte after byte and call after call.
use Rattle.std.proofs.lemmas.Grind.{common_steps}
use Rattle.totem_names.proofs.Common.{Some, None, IfSome, ◌==◌, ◌&&◌, not, nat_le, ◌≡◌, ◌≢◌, length, drop, get_or, add-one, drop-cons, ℕ, ◌+◌, ◌-◌, ◌*◌, ◌%◌, ◌^◌, ◌<◌, ◌≤◌, arith, rules, List, [], ◌∷◌, ◌++◌, Bool, true, false, cond, Result, Ok, Err, refl, sym, ◌∙◌, ap, append_assoc, append-nil, drop_all, Consumes, IsAtEnd, Keeps, Seen, Parsed, Comes, Breaks, BreaksAt, Stops, Reads, WantsLast, EndsAtBreak, is_short, ◌>>=◌}
use Rattle.std.specs.declared.option.Option.{Option}
use Rattle.std.proofs.KnownBytes.{Consumes-trans, Consumes-nil}
use Rattle.totem_names.specs.declared.fault.TextFault.{TextFault}
use Rattle.totem_names.specs.declared.fault.TextFault.TheVariants.{Truncated, Number}
use Rattle.totem_names.specs.declared.fault.ReadError.{ReadError}
use Rattle.totem_names.specs.declared.fault.ReadError.TheVariants as errors
use Rattle.totem_names.specs.Numbers.{byte_at, word_at, is_digit, number_at, digits_at}

-- ---- the last byte that was taken

-- the last byte of a list that has one
pub last_of : (b : ℕ) (bs : List ℕ) → (front : List ℕ) × (byte : ℕ) × (b ∷ bs ≡ front ++ byte ∷ [])
last_of b [] = ([], b, refl)
last_of b (c ∷ cs) = let x = last_of c cs in (b ∷ x.0, x.1, ap (λ (w : List ℕ). b ∷ w) x.2)

-- what is before it
pub front_is : (xs ys : List ℕ) (x y : ℕ) → xs ++ x ∷ [] ≡ ys ++ y ∷ [] → xs ≡ ys
front_is [] [] x y h = refl
front_is [] (b ∷ []) x y h = absurd cc
front_is [] (b ∷ c ∷ ys) x y h = absurd cc
front_is (a ∷ []) [] x y h = absurd cc
front_is (a ∷ c ∷ xs) [] x y h = absurd cc
front_is (a ∷ xs) (b ∷ ys) x y h =
    let head : a ≡ b = cc in
    let tail : xs ++ x ∷ [] ≡ ys ++ y ∷ [] = cc in
    let rest = front_is xs ys x y tail in
    rw (head, rest) refl

-- no byte was taken
pub wants_none : {Y : Type 0} (parse : List ℕ → Result Y TextFault) → WantsLast parse []
wants_none parse [] byte h = absurd cc
wants_none parse (b ∷ front) byte h = absurd cc

-- two lists, one after the other
pub wants_both : {Y : Type 0} (parse : List ℕ → Result Y TextFault) (xs ys : List ℕ) → WantsLast parse xs → WantsLast (λ more. parse (xs ++ more)) ys → WantsLast parse (xs ++ ys)
wants_both parse xs [] first then front byte h = first front byte (sym (append-nil xs) ∙ h)
wants_both parse xs (b ∷ bs) first then front byte h =
    let x = last_of b bs in
    let whole : (xs ++ x.0) ++ x.1 ∷ [] ≡ front ++ byte ∷ [] = append_assoc xs x.0 (x.1 ∷ []) ∙ ap (λ (w : List ℕ). xs ++ w) (sym x.2) ∙ h in
    ap parse (sym (front_is (xs ++ x.0) front x.1 byte whole)) ∙ then x.0 x.1 x.2

-- bytes were taken, and what is parsed then is cut short
pub wants_rest : {Y : Type 0} (a b : Seen) (parse rest : List ℕ → Result Y TextFault) (ys : List ℕ) (so_far : Comes a b parse rest) → WantsLast rest ys → WantsLast parse (so_far.read ++ ys)
wants_rest a b parse rest ys so_far then = wants_both parse so_far.read ys so_far.before (λ front byte h. so_far.left front ∙ then front byte h)

-- one thing after the other
pub wants_bind : {Y Z : Type 0} (sub : List ℕ → Parsed Y) (k : Y × List ℕ → Result Z TextFault) (bytes : List ℕ) → WantsLast sub bytes → WantsLast (λ more. sub more >>= k) bytes
wants_bind {Y = Y} sub k bytes wants front byte h = ap (λ (r : Parsed Y). r >>= k) (wants front byte h)

-- the last byte taken is the first that breaks a rule, where no result is settled without a byte
pub breaks_at : {Y : Type 0} (old new : Seen) (parse : List ℕ → Result Y TextFault) (fault : TextFault) → parse [] ≡ Err Truncated → is_short fault ≡ false → Breaks old new parse fault → BreaksAt old new parse fault
breaks_at old new parse fault empty long h = record { breaks = h; last = go h.read refl }
  where
    go : (read : List ℕ) → h.read ≡ read → EndsAtBreak parse h.read
    go [] same = absurd (let k : Err fault ≡ Err Truncated = sym h.broken ∙ ap parse same ∙ empty in let e : fault ≡ Truncated = cc in let test : is_short fault ≡ is_short Truncated = ap is_short e in cc)
    go (b ∷ bs) same = let x = last_of b bs in record { front = x.0; byte = x.1; whole = same ∙ x.2; before = h.before x.0 x.1 (same ∙ x.2) }

-- ---- one byte

pub keeps_none : (a b : Option (List ℕ)) → Keeps a b → Consumes a b []
keeps_none a b h = grind arith

at_end_is : (a : Option (List ℕ)) → IsAtEnd a → IfSome a (λ bytes. bytes ≡ [])
at_end_is None h = tt
at_end_is (Some xs) h = h

pub ended : (old new : Seen) → Keeps old.remaining new.remaining → IsAtEnd old.remaining → new.failures ≡ old.failures → Breaks old new byte_at Truncated
ended old new keeps end same = grind (arith, keeps_none, at_end_is, wants_none)

-- ---- what was read before, and what follows

-- nothing is read yet
pub begins : {Y : Type 0} (s : Seen) (parse : List ℕ → Result Y TextFault) → Comes s s parse parse
begins s parse = record { read = []; taken = Consumes-nil s.remaining; failures = refl; left = λ more. refl; before = wants_none parse }

-- a call returned a value
pub called : {Y Z : Type 0} (a b c : Seen) (parse : List ℕ → Result Z TextFault) (sub : List ℕ → Parsed Y) (k : Y × List ℕ → Result Z TextFault) (y : Y)
    → Comes a b parse (λ more. sub more >>= k) → Comes b c sub (λ more. Ok (y, more)) → Comes a c parse (λ more. k (y, more))
called {Y = Y} a b c parse sub k y so_far next = record {
  read = so_far.read ++ next.read;
  taken = Consumes-trans a.remaining b.remaining c.remaining so_far.read next.read so_far.taken next.taken;
  failures = next.failures ∙ so_far.failures;
  left = λ more. ap parse (append_assoc so_far.read next.read more) ∙ so_far.left (next.read ++ more) ∙ ap (λ (r : Parsed Y). r >>= k) (next.left more);
  before = wants_rest a b parse (λ more. sub more >>= k) next.read so_far (wants_bind sub k next.read next.before);
}

joined_whole : (a b : Option (List ℕ)) (xs ys : List ℕ) → Consumes a b xs → IfSome b (λ bytes. bytes ≡ ys) → IfSome a (λ bytes. bytes ≡ xs ++ ys)
joined_whole a b xs ys h k = grind arith

broke : {Y Z : Type 0} (a b c : Seen) (parse : List ℕ → Result Z TextFault) (sub : List ℕ → Parsed Y) (k : Y × List ℕ → Result Z TextFault) (f : TextFault)
    → Comes a b parse (λ more. sub more >>= k) → Breaks b c sub f → Breaks a c parse f
broke {Y = Y} a b c parse sub k f so_far next = record {
  read = so_far.read ++ next.read;
  taken = Consumes-trans a.remaining b.remaining c.remaining so_far.read next.read so_far.taken next.taken;
  failures = next.failures ∙ so_far.failures;
  broken = so_far.left next.read ∙ ap (λ (r : Parsed Y). r >>= k) next.broken;
  stays = λ h more. ap parse (append_assoc so_far.read next.read more) ∙ so_far.left (next.read ++ more) ∙ ap (λ (r : Parsed Y). r >>= k) (next.stays h more);
  whole = λ h. joined_whole a.remaining b.remaining so_far.read next.read so_far.taken (next.whole h);
  before = wants_rest a b parse (λ more. sub more >>= k) next.read so_far (wants_bind sub k next.read next.before);
}

stopped : {Y : Type 0} (a b c : Seen) (parse rest : List ℕ → Result Y TextFault) (read : List ℕ)
    → Comes a b parse rest → Consumes b.remaining c.remaining read → c.failures ≡ (b.failures + 1) % 2 ^ 64 → rest read ≡ Err Truncated → Stops a c parse
stopped a b c parse rest read so_far taken counted short = grind (arith, common_steps)

-- a call failed
pub failed : {Y Z : Type 0} (a b c : Seen) (parse : List ℕ → Parsed Z) (sub : List ℕ → Parsed Y) (k : Y × List ℕ → Parsed Z) (e : ReadError)
    → Comes a b parse (λ more. sub more >>= k) → Reads {Y = Y} b c (Err e) sub → Reads {Y = Z} a c (Err e) parse
failed a b c parse sub k errors.Memory so_far h = h ∙ so_far.failures
failed {Y = Y} a b c parse sub k errors.Read so_far h = stopped a b c parse (λ more. sub more >>= k) h.read so_far h.taken h.failures (ap (λ (r : Parsed Y). r >>= k) h.short)
failed a b c parse sub k (errors.Text f) so_far h = broke a b c parse sub k f so_far h

-- what is left is parsed in another way that gives the same
pub same_left : {Y : Type 0} (a b : Seen) (parse rest other : List ℕ → Result Y TextFault) → Comes a b parse rest → ((more : List ℕ) → rest more ≡ other more) → Comes a b parse other
same_left a b parse rest other so_far same = record { read = so_far.read; taken = so_far.taken; failures = so_far.failures; left = λ more. so_far.left more ∙ same more; before = so_far.before }

-- a test
pub chosen : {Y : Type 0} (a b : Seen) (parse p q : List ℕ → Result Y TextFault) (t : Bool) → Comes a b parse (λ more. cond t (p more) (q more)) → t ≡ true → Comes a b parse p
chosen a b parse p q t so_far e = same_left a b parse (λ more. cond t (p more) (q more)) p so_far (λ more. rw e refl)

pub passed : {Y : Type 0} (a b : Seen) (parse p q : List ℕ → Result Y TextFault) (t : Bool) → Comes a b parse (λ more. cond t (p more) (q more)) → t ≡ false → Comes a b parse q
passed a b parse p q t so_far e = same_left a b parse (λ more. cond t (p more) (q more)) q so_far (λ more. rw e refl)

-- a byte breaks a rule
pub stops : {Y : Type 0} (a b : Seen) (parse : List ℕ → Parsed Y) (f : TextFault) → Comes a b parse (λ more. Err f) → is_short f ≡ false → Breaks a b parse f
stops a b parse f so_far h = record {
  read = so_far.read;
  taken = so_far.taken;
  failures = so_far.failures;
  broken = ap parse (sym (append-nil so_far.read)) ∙ so_far.left [];
  stays = λ _ more. so_far.left more;
  whole = λ e. absurd cc;
  before = so_far.before;
}

-- ---- digits and words

pub first_digit : (max b n : ℕ) → is_digit b ≡ true → b ≢ 48 → n ≡ b - 48 → (more : List ℕ) → number_at max (b ∷ more) ≡ digits_at max n more
unfolding number_at
first_digit max b n digit other e more = let test : (b == 48) ≡ false = search rules in rw (digit, test, e)

pub first_other : (max b : ℕ) → is_digit b ≡ false → (more : List ℕ) → number_at max (b ∷ more) ≡ Err Number
unfolding number_at
first_other max b digit more = rw digit

pub first_unfit : (max b : ℕ) → (is_digit b && not (b == 48)) ≡ false → (more : List ℕ) → number_at max (b ∷ more) ≡ Err Number
unfolding number_at
first_unfit max b unfit more = grind arith

pub first_fits : (b : ℕ) → (is_digit b && not (b == 48)) ≡ true → (is_digit b ≡ true) × (b ≢ 48)
first_fits b h = grind arith

pub next_digit : (max n b d : ℕ) → is_digit b ≡ true → d ≡ b - 48 → 10 * n + d ≤ max → (more : List ℕ) → digits_at max n (b ∷ more) ≡ digits_at max (10 * n + d) more
unfolding digits_at
next_digit max n b d digit e le more = let test : nat_le (10 * n + (b - 48)) max ≡ true = (rw (← e) (search rules)) in rw (digit, test, e)

pub next_over : (max n b d : ℕ) → is_digit b ≡ true → d ≡ b - 48 → max < 10 * n + d → (more : List ℕ) → digits_at max n (b ∷ more) ≡ Err Number
unfolding digits_at
next_over max n b d digit e lt more = let test : nat_le (10 * n + (b - 48)) max ≡ false = (rw (← e) (search rules)) in rw (digit, test)

pub next_other : (max n b : ℕ) → is_digit b ≡ false → (more : List ℕ) → digits_at max n (b ∷ more) ≡ Ok ((n, b), more)
unfolding digits_at
next_other max n b digit more = rw digit

pub digit_low : (b : ℕ) → is_digit b ≡ true → b ≢ 48 → (0 < b - 48) × (b - 48 ≤ 9)
digit_low b h other = (grind arith, grind arith)

-- a byte was read, and what is parsed then
pub steps : {Y : Type 0} (a b c : Seen) (parse rest other : List ℕ → Result Y TextFault) (x : ℕ)
    → Comes a b parse rest → rest [] ≡ Err Truncated → Comes b c byte_at (λ more. Ok (x, more)) → ((more : List ℕ) → rest (x ∷ more) ≡ other more) → Comes a c parse other
steps a b c parse rest other x so_far short next same =
    let one : next.read ≡ x ∷ [] = one_byte next.read x (next.left []) in
    record {
      read = so_far.read ++ next.read;
      taken = Consumes-trans a.remaining b.remaining c.remaining so_far.read next.read so_far.taken next.taken;
      failures = next.failures ∙ so_far.failures;
      left = λ more. ap parse (append_assoc so_far.read next.read more) ∙ so_far.left (next.read ++ more) ∙ ap (λ (w : List ℕ). rest (w ++ more)) one ∙ same more;
      before = wants_rest a b parse rest next.read so_far (λ front byte h. ap rest (sym (front_is [] front x byte (sym one ∙ h))) ∙ short);
    }
  where
    one_byte : (read : List ℕ) (x : ℕ) → byte_at (read ++ []) ≡ Ok (x, []) → read ≡ x ∷ []
    one_byte [] x h = absurd cc
    one_byte (b ∷ bs) x h =
        let pair : ◌≡◌ {A = ℕ × List ℕ} (b, bs ++ []) (x, []) = cc in
        let tail : bs ≡ [] = sym (append-nil bs) ∙ ap (λ (p : ℕ × List ℕ). p.1) pair in
        let head : b ≡ x = ap (λ (p : ℕ × List ℕ). p.0) pair in
        rw (head, tail) refl

none_read : (read : List ℕ) (f : TextFault) → byte_at read ≡ Err f → (read ≡ []) × (f ≡ Truncated)
none_read [] f h = (refl, cc)
none_read (b ∷ bs) f h = absurd cc

-- no byte was read
pub gives_up : {Y : Type 0} (a b c : Seen) (parse rest : List ℕ → Parsed Y) (e : ReadError)
    → Comes a b parse rest → rest [] ≡ Err Truncated → Reads {Y = ℕ} b c (Err e) byte_at → Reads {Y = Y} a c (Err e) parse
gives_up a b c parse rest e h k m = grind (arith, common_steps, stopped, none_read, joined_whole, wants_rest, wants_none)

pub first_none : (max : ℕ) → number_at max [] ≡ Err Truncated
unfolding number_at
first_none max = refl

pub next_none : (max n : ℕ) → digits_at max n [] ≡ Err Truncated
unfolding digits_at
next_none max n = refl

-- ---- the last call, and tests of a byte

pub handed : {Z : Type 0} (a b c : Seen) (parse sub : List ℕ → Parsed Z) (r : Result Z ReadError) → Comes a b parse sub → Reads b c r sub → Reads a c r parse
handed a b c parse sub (Ok y) so_far next = record {
  read = so_far.read ++ next.read;
  taken = Consumes-trans a.remaining b.remaining c.remaining so_far.read next.read so_far.taken next.taken;
  failures = next.failures ∙ so_far.failures;
  left = λ more. ap parse (append_assoc so_far.read next.read more) ∙ so_far.left (next.read ++ more) ∙ next.left more;
  before = wants_rest a b parse sub next.read so_far next.before;
}
handed a b c parse sub (Err errors.Memory) so_far h = h ∙ so_far.failures
handed a b c parse sub (Err errors.Read) so_far h = stopped a b c parse sub h.read so_far h.taken h.failures h.short
handed a b c parse sub (Err (errors.Text f)) so_far next = record {
  read = so_far.read ++ next.read;
  taken = Consumes-trans a.remaining b.remaining c.remaining so_far.read next.read so_far.taken next.taken;
  failures = next.failures ∙ so_far.failures;
  broken = so_far.left next.read ∙ next.broken;
  stays = λ h more. ap parse (append_assoc so_far.read next.read more) ∙ so_far.left (next.read ++ more) ∙ next.stays h more;
  whole = λ h. joined_whole a.remaining b.remaining so_far.read next.read so_far.taken (next.whole h);
  before = wants_rest a b parse sub next.read so_far next.before;
}

pub picks : {Y : Type 0} (a b : Seen) (parse p q : List ℕ → Result Y TextFault) (x n : ℕ) → Comes a b parse (λ more. cond (x == n) (p more) (q more)) → x ≡ n → Comes a b parse p
picks a b parse p q x n so_far e = chosen a b parse p q (x == n) so_far (search rules)

pub skips : {Y : Type 0} (a b : Seen) (parse p q : List ℕ → Result Y TextFault) (x n : ℕ) → Comes a b parse (λ more. cond (x == n) (p more) (q more)) → x ≢ n → Comes a b parse q
skips a b parse p q x n so_far e = passed a b parse p q (x == n) so_far (search rules)

pub word_none : (fault : TextFault) (word bytes : List ℕ) (i : ℕ) → length word ≤ i → word_at fault (drop i word) bytes ≡ Ok (tt, bytes)
unfolding word_at
word_none fault word bytes i le = rw (drop_all i word le) refl

pub word_step : (fault : TextFault) (word : List ℕ) (i w : ℕ) → i < length word → w ≡ get_or word i 0
    → (bytes : List ℕ) → word_at fault (drop i word) bytes ≡ (byte_at bytes >>= λ b. cond (b.0 == w) (word_at fault (drop (i + 1) word) b.1) (Err fault))
unfolding word_at
word_step fault word i w lt e bytes = rw (drop-cons word i 0 lt, e) (rw add-one refl)

-- tests of a number
pub is_within : {Y : Type 0} (a b : Seen) (parse p q : List ℕ → Result Y TextFault) (x n : ℕ) → Comes a b parse (λ more. cond (nat_le x n) (p more) (q more)) → x ≤ n → Comes a b parse p
is_within a b parse p q x n so_far le = chosen a b parse p q (nat_le x n) so_far (search rules)

pub is_above : {Y : Type 0} (a b : Seen) (parse p q : List ℕ → Result Y TextFault) (x n : ℕ) → Comes a b parse (λ more. cond (nat_le x n) (p more) (q more)) → n < x → Comes a b parse q
is_above a b parse p q x n so_far lt = passed a b parse p q (nat_le x n) so_far (search rules)

-- a value, and what is left
abbrev pub gives : {A : Type 0} → A → List ℕ → Parsed A
gives x rest = Ok (x, rest)

-- a byte that differs
pub passes_byte : {Y : Type 0} (a b : Seen) (parse p q : List ℕ → Result Y TextFault) (x m n : ℕ) → Comes a b parse (λ more. cond (x == n) (p more) (q more)) → x ≡ m → (m == n) ≡ false → Comes a b parse q
passes_byte a b parse p q x m n so_far e f = passed a b parse p q (x == n) so_far (ap (λ (k : ℕ). k == n) e ∙ f)
