-- Readers of lists: what was read before, and what is still read.
use Rattle.std.proofs.lemmas.Grind.{common_steps}
use Rattle.totem_evs.proofs.Common.{nat_le, ◌==◌, ◌≡◌, ℕ, suc, ◌+◌, List, [], ◌∷◌, ◌++◌, Bool, true, false, cond, Option, Some, None, Ok, Err, refl, ap, append_assoc, arith, RunRecord, Version, id_of, append-nil, Parsed, ◌>>=◌, gives, nat_tests}
use Rattle.totem_names.specs.Processes.{process_then}
use Rattle.totem_names.specs.declared.fault.TextFault.TheVariants as faults
use Rattle.totem_evs.specs.declared.entry.Entry.{Entry}
use Rattle.totem_evs.specs.declared.log.Log.{Log}
use Rattle.totem_evs.specs.declared.ending.Ending.{Ending}
use Rattle.totem_evs.specs.RunGrammar.{is_failure, members_at, line_at, by_line, lines_at, log_at, run_words, logs_at, run_at}
use Rattle.totem_evs.specs.Heads.{Words, records_at, head_at, by_head, header_at}

-- ---- lists

pub one_more : {A : Type 0} (front : List A) (p : A) (r : Parsed (List A)) → ((r >>= λ others. gives (p ∷ others.0) others.1) >>= λ x. gives (front ++ x.0) x.1) ≡ (r >>= λ x. gives ((front ++ p ∷ []) ++ x.0) x.1)
one_more front p r = grind (arith, append_assoc)

-- nothing was read before
pub none_before : {A : Type 0} (r : Parsed (List A)) → r ≡ (r >>= λ x. gives ([] ++ x.0) x.1)
none_before r = grind arith

-- ---- members

abbrev pub with_members : Version → List ℕ → ℕ → ℕ → List ℕ → Parsed (List ℕ)
with_members version front room last bytes = members_at version room last bytes >>= λ x. gives (front ++ x.0) x.1

pub members_step : (version : Version) (front : List ℕ) (room room' last : ℕ) → room ≡ suc room' → (bytes : List ℕ) → with_members version front room last bytes ≡ (process_then version bytes >>= λ p.
    cond (nat_le (id_of p.0.0) last) (Err faults.Members) (cond (p.0.1 == 10) (gives (front ++ p.0.0 ∷ []) p.1) (cond (p.0.1 == 32) (with_members version (front ++ p.0.0 ∷ []) room' (id_of p.0.0) p.1) (Err faults.Word))))
unfolding members_at
members_step version front room room' last e bytes = grind (arith, common_steps, gives, one_more)

pub members_none : (version : Version) (front : List ℕ) (room last : ℕ) → room ≡ 0 → (bytes : List ℕ) → with_members version front room last bytes ≡ Err faults.TooMany
unfolding members_at
members_none version front room last e bytes = rw e refl

pub members_first : (version : Version) (room last : ℕ) (bytes : List ℕ) → members_at version room last bytes ≡ with_members version [] room last bytes
members_first version room last bytes = none_before (members_at version room last bytes)

-- ---- the lines of a log

abbrev closed : ℕ → List Entry → Ending → List ℕ → Parsed Log
closed p entries ending rest = Ok (record { proc = p; entries = entries; ending = ending }, rest)

abbrev pub with_entries : Version → ℕ → List Entry → ℕ → Bool → Bool → List ℕ → Parsed Log
with_entries version p front room some failed bytes = lines_at version room some failed bytes >>= λ x. closed p (front ++ x.0.0) x.0.1 x.1

pub entries_step : (version : Version) (p : ℕ) (front : List Entry) (room room' : ℕ) (full some failed : Bool) → room ≡ suc room' → (room' == 0) ≡ full → (bytes : List ℕ) → with_entries version p front room some failed bytes ≡ (line_at version full some failed bytes >>= λ l.
    by_line l.0 (λ ending. closed p (front) ending l.1) (λ e. with_entries version p (front ++ e ∷ []) room' true (is_failure e) l.1))
unfolding lines_at
entries_step version p front room room' full some failed e same bytes = grind (arith, append_assoc, append-nil)

pub log_first : (version : Version) (p : ℕ) (bytes : List ℕ) → log_at version p bytes ≡ with_entries version p [] 1000001 false false bytes
unfolding log_at
log_first version p bytes = grind arith

-- ---- records

abbrev pub with_records : {X R : Type 0} → Words → (Version → ℕ → List ℕ → Parsed X) → (ℕ → X → R) → Version → List R → ℕ → ℕ → List ℕ → Parsed (List R)
with_records words rest_at made version front room last bytes = records_at words rest_at made version room last bytes >>= λ x. gives (front ++ x.0) x.1

pub records_step : {X R : Type 0} (words : Words) (rest_at : Version → ℕ → List ℕ → Parsed X) (made : ℕ → X → R) (version : Version) (front : List R) (room room' last : ℕ) (full : Bool) → room ≡ suc room' → (room' == 0) ≡ full → (bytes : List ℕ) → with_records words rest_at made version front room last bytes ≡ (head_at words version full last bytes >>= λ head.
    by_head head.0 (gives front head.1) (λ p. rest_at version p head.1 >>= λ x. with_records words rest_at made version (front ++ made p x.0 ∷ []) room' p x.1))
unfolding records_at
records_step {X = X} {R = R} words rest_at made version front room room' last full e same bytes = rw (e, same) (go (head_at words version full last bytes))
  where
    recorded : (p : ℕ) (r : Parsed X) →
        ((r >>= λ x. records_at words rest_at made version room' p x.1 >>= λ others. gives (made p x.0 ∷ others.0) others.1) >>= λ x. gives (front ++ x.0) x.1)
        ≡ (r >>= λ x. with_records words rest_at made version (front ++ made p x.0 ∷ []) room' p x.1)
    recorded p (Ok x) = one_more front (made p x.0) (records_at words rest_at made version room' p x.1)
    recorded p (Err f) = refl

    headed : (head : Option ℕ) (rest : List ℕ) →
        (by_head head (gives [] rest) (λ p. rest_at version p rest >>= λ x. records_at words rest_at made version room' p x.1 >>= λ others. gives (made p x.0 ∷ others.0) others.1) >>= λ x. gives (front ++ x.0) x.1)
        ≡ by_head head (gives front rest) (λ p. rest_at version p rest >>= λ x. with_records words rest_at made version (front ++ made p x.0 ∷ []) room' p x.1)
    headed None rest = ap (λ (rs : List R). gives rs rest) (append-nil front)
    headed (Some p) rest = recorded p (rest_at version p rest)

    go : (r : Parsed (Option ℕ)) →
        ((r >>= λ head. by_head head.0 (gives [] head.1) (λ p. rest_at version p head.1 >>= λ x. records_at words rest_at made version room' p x.1 >>= λ others. gives (made p x.0 ∷ others.0) others.1)) >>= λ x. gives (front ++ x.0) x.1)
        ≡ (r >>= λ head. by_head head.0 (gives front head.1) (λ p. rest_at version p head.1 >>= λ x. with_records words rest_at made version (front ++ made p x.0 ∷ []) room' p x.1))
    go (Ok head) = headed head.0 head.1
    go (Err f) = refl

pub records_none : {X R : Type 0} (words : Words) (rest_at : Version → ℕ → List ℕ → Parsed X) (made : ℕ → X → R) (version : Version) (front : List R) (room last : ℕ) → room ≡ 0 → (bytes : List ℕ) → with_records words rest_at made version front room last bytes ≡ Err faults.TooMany
unfolding records_at
records_none words rest_at made version front room last e bytes = rw e refl

-- ---- logs

abbrev pub with_logs : Version → List Log → ℕ → ℕ → List ℕ → Parsed (List Log)
with_logs version front room last bytes = with_records run_words log_at (λ p log. log) version front room last bytes

pub logs_step : (version : Version) (front : List Log) (room room' last : ℕ) (full : Bool) → room ≡ suc room' → (room' == 0) ≡ full → (bytes : List ℕ) → with_logs version front room last bytes ≡ (head_at run_words version full last bytes >>= λ head.
    by_head head.0 (gives front head.1) (λ p. log_at version p head.1 >>= λ log. with_logs version (front ++ log.0 ∷ []) room' p log.1))
logs_step version front room room' last full e same bytes = records_step run_words log_at (λ p log. log) version front room room' last full e same bytes

pub logs_first : (version : Version) (room last : ℕ) (bytes : List ℕ) → logs_at version room last bytes ≡ with_logs version [] room last bytes
logs_first version room last bytes = none_before (logs_at version room last bytes)

-- ---- what came

pub full_is : (limit i room : ℕ) → i + room ≡ limit → (room == 0) ≡ (i == limit)
full_is limit i room e = grind (arith, nat_tests)

-- the logs of a run of this version
abbrev pub as_run : Version → List Log × List ℕ → Parsed RunRecord
as_run version logs = Ok (record { version = version; logs = logs.0 }, logs.1)

pub run_first : (bytes : List ℕ) → run_at bytes ≡ (header_at run_words bytes >>= λ v. with_logs v.0 [] 33 0 v.1 >>= as_run v.0)
unfolding run_at
run_first bytes = grind (arith, logs_first)
