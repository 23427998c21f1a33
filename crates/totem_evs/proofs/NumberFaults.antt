-- Number is the fault of a number that the grammar reads.
use Rattle.totem_evs.proofs.Common.{◌==◌, decimal, ◌↔◌, ◌≡◌, ◌≢◌, ℕ, zero, suc, ◌+◌, ◌-◌, ◌*◌, ◌^◌, ◌<◌, ◌≤◌, ◌⊎◌, inl, inr, List, [], ◌∷◌, ◌++◌, Bool, true, false, cond, Option, Some, None, Ok, Err, refl, sym, ap, subst, ◌∙◌, append_assoc, arith, Version, id_of, cases_lt, eqb-true, TextFault, Parsed, ◌>>=◌, after, parsed_is, first_other, next_digit, next_over, next_other, byte_is, decimal_push, reads_decimal, number_is, number_again, IsPast, IsNoNumber, BreaksNumber}
use Rattle.totem_names.specs.Processes.{first_life_then, life_then, process_then}
use Rattle.std.proofs.lemmas.Fmt.{decimal_digit}
use Rattle.totem_names.specs.declared.fault.TextFault.TheVariants as faults
use Rattle.totem_names.specs.Numbers.{is_digit, byte_at, word_at, digits_at, number_at, number_to}
use Rattle.totem_names.specs.Parsers.{ring_at, message_at, regular_at, transitional_at, conf_at}
use Rattle.totem_evs.specs.declared.entry.Entry.{Entry}
use Rattle.totem_evs.specs.declared.ending.Ending.{Ending}
use Rattle.totem_evs.specs.declared.lines.Line.{Line}
use Rattle.totem_evs.specs.declared.lines.Line.TheVariants as lines
use Rattle.totem_names.specs.Services.{service_at}
use Rattle.totem_evs.specs.RunGrammar.{is_failure, members_at, change_at, send_at, delivery_at, open_at, quiet_at, failed_at, fail_at, ail_at, failure_at, line_at, by_line, lines_at, log_at, run_words, run_at}
use Rattle.totem_evs.specs.Heads.{records_at, Words, proc_at, begin_at, end_at, head_at, by_head, header_end, header_at}
use Rattle.totem_evs.proofs.PartFaults.{bind_case}
use Rattle.totem_evs.proofs.GoesOn.{digit_low}

-- ---- a parser takes its bytes, and each fault Number of it is that of a number

pub record Taken {A : Type 0} (parse : List ℕ → Parsed A) (bytes : List ℕ) (a : A) (rest : List ℕ) : Type 0 where
  pub text : List ℕ
  pub is : bytes ≡ text ++ rest
  pub again : (more : List ℕ) → parse (text ++ more) ≡ Ok (a, more)

pub record Numbered {A : Type 0} (parse : List ℕ → Parsed A) : Type 0 where
  pub takes : (bytes : List ℕ) (a : A) (rest : List ℕ) → parse bytes ≡ Ok (a, rest) → Taken parse bytes a rest
  pub breaks : (bytes : List ℕ) → parse bytes ≡ Err faults.Number → BreaksNumber parse bytes

pub gives_numbered : {A : Type 0} (y : A) → Numbered {A = A} (λ bytes. Ok (y, bytes))
gives_numbered {A = A} y = record {
  takes = λ bytes a rest e. let p = parsed_is y a bytes rest e in record { text = []; is = p.1; again = λ more. ap (λ (x : A). Ok (x, more)) p.0 };
  breaks = λ bytes e. absurd cc;
}

pub fault_numbered : {A : Type 0} (f : TextFault) → f ≢ faults.Number → Numbered {A = A} (λ bytes. Err f)
fault_numbered f other = record { takes = λ bytes a rest e. absurd cc; breaks = λ bytes e. absurd (other (let same : f ≡ faults.Number = cc in same)) }

pub cond_numbered : {A : Type 0} (t : Bool) (p q : List ℕ → Parsed A) → Numbered p → Numbered q → Numbered (λ bytes. cond t (p bytes) (q bytes))
cond_numbered true p q a b = a
cond_numbered false p q a b = b

bind_twice : {A B C : Type 0} (r : Parsed A) (j : A × List ℕ → Parsed B) (k : B × List ℕ → Parsed C) → ((r >>= j) >>= k) ≡ (r >>= λ x. j x >>= k)
bind_twice r j k = grind arith

pub bind_numbered : {A B : Type 0} (sub : List ℕ → Parsed A) (k : A × List ℕ → Parsed B) → Numbered sub → ((a : A) → Numbered (λ bytes. k (a, bytes))) → Numbered (λ bytes. sub bytes >>= k)
bind_numbered {A = A} {B = B} sub k first next = record {
  takes = λ bytes b rest e. after (sub bytes) k (b, rest) e (λ x mid e1 e2.
      let one = first.takes bytes x mid e1 in
      let two = (next x).takes mid b rest e2 in
      record {
        text = one.text ++ two.text;
        is = one.is ∙ ap (λ (t : List ℕ). one.text ++ t) two.is ∙ sym (append_assoc one.text two.text rest);
        again = λ more. ap (λ (t : List ℕ). sub t >>= k) (append_assoc one.text two.text more) ∙ ap (λ (r : Parsed A). r >>= k) (one.again (two.text ++ more)) ∙ two.again more;
      });
  breaks = λ bytes e. bind_case (sub bytes) k faults.Number e
      (λ e1.
      let one = first.breaks bytes e1 in
      record {
        front = one.front;
        max = one.max;
        limit = one.limit;
        after = λ x. one.after x >>= k;
        rest = one.rest;
        is = one.is;
        wants = λ more. ap (λ (r : Parsed A). r >>= k) (one.wants more) ∙ bind_twice (number_at one.max more) one.after k;
        none = one.none;
      })
      (λ x mid e1 e2.
      let one = first.takes bytes x mid e1 in
      let two = (next x).breaks mid e2 in
      record {
        front = one.text ++ two.front;
        max = two.max;
        limit = two.limit;
        after = two.after;
        rest = two.rest;
        is = one.is ∙ ap (λ (t : List ℕ). one.text ++ t) two.is ∙ sym (append_assoc one.text two.front two.rest);
        wants = λ more. ap (λ (t : List ℕ). sub t >>= k) (append_assoc one.text two.front more) ∙ ap (λ (r : Parsed A). r >>= k) (one.again (two.front ++ more)) ∙ two.wants more;
        none = two.none;
      });
}

pub byte_numbered : Numbered byte_at
byte_numbered = record {
  takes = λ bytes a rest e. record { text = a ∷ []; is = byte_is bytes a rest e; again = λ more. refl };
  breaks = λ bytes e. absurd (no_byte bytes e);
}
  where
    no_byte : (bytes : List ℕ) → byte_at bytes ≡ Err faults.Number → ⊥
    no_byte [] e = absurd (let same : faults.Truncated ≡ faults.Number = cc in cc)
    no_byte (b ∷ bytes) e = absurd cc

pub word_numbered : (fault : TextFault) (word : List ℕ) → fault ≢ faults.Number → Numbered (word_at fault word)
unfolding word_at
word_numbered fault [] other = gives_numbered tt
word_numbered fault (w ∷ word) other = bind_numbered byte_at (λ b. cond (b.0 == w) (word_at fault word b.1) (Err fault)) byte_numbered (λ b. cond_numbered (b == w) (word_at fault word) (λ bytes. Err fault) (word_numbered fault word other) (fault_numbered fault other))

-- ---- numbers

digits_none : (max n : ℕ) (bytes : List ℕ) → max < 2 ^ 32 → 0 < n → n ≤ max → digits_at max n bytes ≡ Err faults.Number → IsPast max (decimal n ++ bytes)
unfolding digits_at
digits_none max n [] fits pos small e = absurd (let same : faults.Truncated ≡ faults.Number = cc in cc)
digits_none max n (b ∷ bytes) fits pos small e = go (is_digit b) refl (λ d pos' small' k. digits_none max (10 * n + d) bytes fits pos' small' k) e
  where
    go : (t : Bool) → is_digit b ≡ t
        → ((d : ℕ) → 0 < 10 * n + d → 10 * n + d ≤ max → digits_at max (10 * n + d) bytes ≡ Err faults.Number → IsPast max (decimal (10 * n + d) ++ bytes))
        → digits_at max n (b ∷ bytes) ≡ Err faults.Number → IsPast max (decimal n ++ b ∷ bytes)
    go true digit again k =
        let bounds = digit_low b digit in
        elim (cases_lt max (10 * n + (b - 48))) [
          | inl over ↦ record { number = n; byte = b; rest = bytes; fits = record { positive = pos; small = small }; digit = digit; past = over; is = refl }
          | inr within ↦
              let e = next_digit max n b (b - 48) digit refl within bytes in
              let found = again (b - 48) (omega arith) within (sym e ∙ k) in
              let code : 48 + (b - 48) ≡ b = omega arith in
              let text : decimal (10 * n + (b - 48)) ≡ decimal n ++ b ∷ [] = rw code at (decimal_push n (b - 48) pos (omega arith) (omega arith)) in
              subst (IsPast max) (ap (λ (t : List ℕ). t ++ bytes) text ∙ append_assoc (decimal n) (b ∷ []) bytes) found
        ]
    go false other again k = absurd (let e = next_other max n b other bytes in cc)

number_none : (max : ℕ) (bytes : List ℕ) → 9 ≤ max → max < 2 ^ 32 → number_at max bytes ≡ Err faults.Number → IsNoNumber max bytes
unfolding number_at
number_none max [] nine fits e = absurd (let same : faults.Truncated ≡ faults.Number = cc in cc)
number_none max (b ∷ bytes) nine fits e = go (is_digit b) (b == 48) refl refl e
  where
    go : (t u : Bool) → is_digit b ≡ t → (b == 48) ≡ u → cond t (cond u (Err faults.Number) (digits_at max (b - 48) bytes)) (Err faults.Number) ≡ Err faults.Number → IsNoNumber max (b ∷ bytes)
    go true true digit zero' k = inl (b, bytes, refl, inr (eqb-true b 48 zero'))
    go true false digit other k =
        let bounds = digit_low b digit in
        let differs : b ≢ 48 = λ e. absurd (let f : (48 == 48) ≡ false = rw e at other in cc) in
        let found = digits_none max (b - 48) bytes fits (omega (arith, bounds.0, differs)) (omega arith) k in
        let code : 48 + (b - 48) ≡ b = omega arith in
        let text : decimal (b - 48) ≡ b ∷ [] = rw code at (decimal_digit (b - 48) (omega arith)) in
        inr (subst (IsPast max) (ap (λ (t : List ℕ). t ++ bytes) text) found)
    go false u digit zero' k = inl (b, bytes, refl, inl digit)

zero_first : (max : ℕ) (rest : List ℕ) → number_at max (48 ∷ rest) ≡ Err faults.Number
unfolding number_at
zero_first max rest = refl

pub none_number : (max : ℕ) (bytes : List ℕ) → max < 2 ^ 32 → IsNoNumber max bytes → number_at max bytes ≡ Err faults.Number
none_number max bytes h k = grind (arith, first_other, zero_first, reads_decimal, next_over)

-- a limit of numbers
pub limits : (max : ℕ) → ((max ≡ 65535) ⊎ (max ≡ 4294967295)) → (9 ≤ max) × (max < 2 ^ 32)
limits max h = grind arith

kept : {A : Type 0} (r : Parsed A) → r ≡ (r >>= λ x. Ok (x.0, x.1))
kept r = grind arith

pub number_numbered : (max : ℕ) → ((max ≡ 65535) ⊎ (max ≡ 4294967295)) → Numbered (number_at max)
number_numbered max limit = record {
  takes = λ bytes a rest e.
      let x = number_is max a.0 a.1 bytes rest (limits max limit).0 (limits max limit).1 e in
      record {
        text = decimal a.0 ++ a.1 ∷ [];
        is = x.spelled ∙ sym (append_assoc (decimal a.0) (a.1 ∷ []) rest);
        again = λ more. ap (number_at max) (append_assoc (decimal a.0) (a.1 ∷ []) more) ∙ number_again max a.0 a.1 more x.positive x.small (limits max limit).1 x.behind;
      };
  breaks = λ bytes e. record {
    front = [];
    max = max;
    limit = limit;
    after = λ x. Ok (x.0, x.1);
    rest = bytes;
    is = refl;
    wants = λ more. kept (number_at max more);
    none = number_none max bytes (limits max limit).0 (limits max limit).1 e;
  };
}

pub word' : {A : Type 0} → Numbered {A = A} (λ bytes. Err faults.Word)
word' = fault_numbered faults.Word (λ h. absurd cc)

of_ids : Numbered (number_at 65535)
of_ids = number_numbered 65535 (inl refl)

of_seqs : Numbered (number_at 4294967295)
of_seqs = number_numbered 4294967295 (inr refl)

process_numbered : (version : Version) → Numbered (process_then version)
unfolding process_then first_life_then life_then number_to
process_numbered version = search (gives_numbered, cond_numbered, bind_numbered, of_ids, word') depth 9

conf_numbered : (end : ℕ) → Numbered (conf_at end)
unfolding conf_at regular_at transitional_at ring_at number_to
conf_numbered end = search (gives_numbered, cond_numbered, bind_numbered, byte_numbered, of_ids, of_seqs, word') depth 12

-- ---- lines

members_numbered : (version : Version) (room last : ℕ) → Numbered (members_at version room last)
unfolding members_at
members_numbered version zero last = fault_numbered faults.TooMany (λ h. absurd cc)
members_numbered version (suc room) last = bind_numbered _ _ (process_numbered version) (λ p. cond_numbered _ _ _ (fault_numbered faults.Members (λ h. absurd cc)) (cond_numbered _ _ _ (gives_numbered _) (cond_numbered _ _ _ (bind_numbered _ _ (members_numbered version room (id_of p.0)) (λ others. gives_numbered _)) word')))

pub too_many : {A : Type 0} → Numbered {A = A} (λ bytes. Err faults.TooMany)
too_many = fault_numbered faults.TooMany (λ h. absurd cc)

end' : {A : Type 0} → Numbered {A = A} (λ bytes. Err faults.End)
end' = fault_numbered faults.End (λ h. absurd cc)

pub words_numbered : (word : List ℕ) → Numbered (word_at faults.Word word)
words_numbered word = word_numbered faults.Word word (λ h. absurd cc)

ruleset numbered_steps = (gives_numbered, cond_numbered, bind_numbered, byte_numbered, words_numbered)

line_numbered : (version : Version) (full some failed : Bool) → Numbered (line_at version full some failed)
unfolding line_at change_at send_at delivery_at failure_at ail_at failed_at fail_at open_at quiet_at service_at message_at ring_at number_to
line_numbered version full some failed =
    search (numbered_steps, conf_numbered, members_numbered, of_ids, of_seqs, too_many, end', word') depth 20

lines_numbered : (version : Version) (room : ℕ) (some failed : Bool) → Numbered (lines_at version room some failed)
unfolding lines_at
lines_numbered version zero some failed = too_many
lines_numbered version (suc room) some failed = bind_numbered _ _ (line_numbered version (room == 0) some failed) (λ l. go l (λ e. lines_numbered version room true (is_failure e)))
  where
    go : (l : Line) → ((e : Entry) → Numbered (lines_at version room true (is_failure e))) → Numbered (λ bytes. by_line {Y = Parsed (List Entry × Ending)} l (λ ending. Ok (([], ending), bytes)) (λ e. lines_at version room true (is_failure e) bytes >>= λ others. Ok ((e ∷ others.0.0, others.0.1), others.1)))
    go (lines.Close ending) again = gives_numbered _
    go (lines.Entry e) again = bind_numbered _ _ (again e) (λ others. gives_numbered _)

log_numbered : (version : Version) (p : ℕ) → Numbered (log_at version p)
unfolding log_at
log_numbered version p = bind_numbered _ _ (lines_numbered version 1000001 false false) (λ body. gives_numbered _)

-- ---- the beginning of a record

pub head_numbered : (words : Words) (version : Version) (full : Bool) (last : ℕ) → Numbered (head_at words version full last)
unfolding head_at begin_at proc_at end_at
head_numbered words version full last =
    let order : faults.Order ≢ faults.Number = λ h. absurd cc in
    search (numbered_steps, process_numbered, fault_numbered, too_many, word') depth 12

pub records_numbered : {X R : Type 0} (words : Words) (rest_at : Version → ℕ → List ℕ → Parsed X) (made : ℕ → X → R) → ((version : Version) (p : ℕ) → Numbered (rest_at version p)) → (version : Version) (room last : ℕ) → Numbered (records_at words rest_at made version room last)
unfolding records_at
records_numbered words rest_at made numbered version zero last = too_many
records_numbered {X = X} {R = R} words rest_at made numbered version (suc room) last = bind_numbered _ _ (head_numbered words version (room == 0) last) (λ head. go head (λ p. records_numbered words rest_at made numbered version room p))
  where
    go : (head : Option ℕ) → ((p : ℕ) → Numbered (records_at words rest_at made version room p)) → Numbered (λ bytes. by_head {Y = Parsed (List R)} head (Ok ([], bytes)) (λ p. rest_at version p bytes >>= λ x. records_at words rest_at made version room p x.1 >>= λ others. Ok (made p x.0 ∷ others.0, others.1)))
    go None again = gives_numbered _
    go (Some p) again = bind_numbered _ _ (numbered version p) (λ x. bind_numbered _ _ (again p) (λ others. gives_numbered _))

pub header_numbered : (words : Words) → Numbered (header_at words)
unfolding header_at header_end
header_numbered words =
    let header : faults.Header ≢ faults.Number = λ h. absurd cc in
    search (gives_numbered, cond_numbered, bind_numbered, byte_numbered, word_numbered, fault_numbered) depth 12

run_numbered : Numbered run_at
unfolding run_at
run_numbered = bind_numbered _ _ (header_numbered run_words) (λ v. bind_numbered _ _ (records_numbered run_words log_at (λ p log. log) log_numbered v 33 0) (λ logs. gives_numbered _))

-- Number is a number's fault, and a number's fault is Number
pub number_exactly : {Y : Type 0} (parse : List ℕ → Parsed Y) → Numbered parse → (bytes : List ℕ) → (parse bytes ≡ Err faults.Number) ↔ BreaksNumber parse bytes
number_exactly parse numbered bytes = grind (arith, none_number, limits)

pub run_number : (bytes : List ℕ) → (run_at bytes ≡ Err faults.Number) ↔ BreaksNumber run_at bytes
run_number = number_exactly run_at run_numbered
