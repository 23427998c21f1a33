-- Which faults the grammar of a run's text can give.
use Rattle.std.proofs.Common.{arith}
use Rattle.totem_evs.proofs.Common.{◌==◌, nat_le, ◌≡◌, ◌⊎◌, inl, inr, ℕ, ◌+◌, ◌-◌, ◌*◌, zero, suc, List, [], ◌∷◌, Bool, true, false, cond, Option, Some, None, Ok, Err, refl, Version, TextFault, Parsed, ◌>>=◌}
use Rattle.totem_names.specs.Processes.{first_life_then, life_then, process_then}
use Rattle.totem_names.specs.declared.fault.TextFault.TheVariants as faults
use Rattle.totem_names.specs.Numbers.{is_digit, byte_at, word_at, digits_at, number_at, number_to}
use Rattle.totem_names.specs.Parsers.{ring_at, message_at, regular_at, transitional_at, conf_at}
use Rattle.totem_names.specs.Services.{service_at}
use Rattle.totem_evs.specs.RunGrammar.{members_at, change_at, send_at, delivery_at, open_at, quiet_at, failed_at, fail_at, ail_at, failure_at, line_at}
use Rattle.totem_evs.specs.Heads.{Words, proc_at, begin_at, end_at, head_at, by_head, records_at, header_end, header_at}

-- a result is a value, or a fault of this kind
pub record Only {A : Type 0} (P : TextFault → Type 0) (r : Parsed A) : Type 0 where
  pub fault : (f : TextFault) → r ≡ Err f → P f

-- the faults of names
pub record OfNames (P : TextFault → Type 0) : Type 0 where
  pub word : P faults.Word
  pub number : P faults.Number
  pub short : P faults.Truncated

-- the faults of entries
pub record OfEntries (P : TextFault → Type 0) : Type 0 where
  pub names : OfNames P
  pub members : P faults.Members
  pub many : P faults.TooMany

pub ok_only : {A : Type 0} (P : TextFault → Type 0) (x : A × List ℕ) → Only {A = A} P (Ok x)
ok_only P x = record { fault = λ f e. absurd cc }

pub fault_only : {A : Type 0} (P : TextFault → Type 0) (f : TextFault) → P f → Only {A = A} P (Err f)
fault_only P f is = record { fault = λ g e. let same : f ≡ g = cc in rw (← same) is }

pub cond_only : {A : Type 0} (P : TextFault → Type 0) (t : Bool) (p q : Parsed A) → Only P p → Only P q → Only P (cond t p q)
cond_only P true p q a b = a
cond_only P false p q a b = b

pub bind_only : {A B : Type 0} (P : TextFault → Type 0) (r : Parsed A) (k : A × List ℕ → Parsed B) → Only P r → ((x : A × List ℕ) → Only P (k x)) → Only P (r >>= k)
bind_only P (Ok x) k first next = next x
bind_only P (Err f) k first next = fault_only P f (first.fault f refl)

pub byte_only : (P : TextFault → Type 0) (bytes : List ℕ) → P faults.Truncated → Only P (byte_at bytes)
byte_only P [] is = fault_only P faults.Truncated is
byte_only P (b ∷ bytes) is = ok_only P (b, bytes)

pub word_only : (P : TextFault → Type 0) (fault : TextFault) (word bytes : List ℕ) → P fault → P faults.Truncated → Only P (word_at fault word bytes)
unfolding word_at
word_only P fault [] bytes is short = ok_only P (tt, bytes)
word_only P fault (w ∷ word) bytes is short = bind_only P (byte_at bytes) (λ b. cond (b.0 == w) (word_at fault word b.1) (Err fault)) (byte_only P bytes short) (λ b. cond_only P (b.0 == w) (word_at fault word b.1) (Err fault) (word_only P fault word b.1 is short) (fault_only P fault is))

pub word_fault : (fault : TextFault) (word bytes : List ℕ) (f : TextFault) → word_at fault word bytes ≡ Err f → (f ≡ fault) ⊎ (f ≡ faults.Truncated)
word_fault fault word bytes f e = (word_only (λ g. (g ≡ fault) ⊎ (g ≡ faults.Truncated)) fault word bytes (inl refl) (inr refl)).fault f e

digits_only : (P : TextFault → Type 0) (max n : ℕ) (bytes : List ℕ) → OfNames P → Only P (digits_at max n bytes)
unfolding digits_at
digits_only P max n [] is = fault_only P faults.Truncated is.short
digits_only P max n (b ∷ bytes) is =
    cond_only P (is_digit b) (cond (nat_le (10 * n + (b - 48)) max) (digits_at max (10 * n + (b - 48)) bytes) (Err faults.Number)) (Ok ((n, b), bytes))
    (cond_only P (nat_le (10 * n + (b - 48)) max) (digits_at max (10 * n + (b - 48)) bytes) (Err faults.Number) (digits_only P max (10 * n + (b - 48)) bytes is) (fault_only P faults.Number is.number)) (ok_only P ((n, b), bytes))

pub number_only : (P : TextFault → Type 0) (max : ℕ) (bytes : List ℕ) → OfNames P → Only P (number_at max bytes)
unfolding number_at
number_only P max bytes h = grind (arith, fault_only, cond_only, digits_only)

pub process_only : (P : TextFault → Type 0) (version : Version) (bytes : List ℕ) → OfNames P → Only P (process_then version bytes)
unfolding process_then first_life_then life_then number_to
process_only P version bytes is = search (ok_only, fault_only, cond_only, bind_only, number_only)

pub conf_only : (P : TextFault → Type 0) (end : ℕ) (bytes : List ℕ) → OfNames P → Only P (conf_at end bytes)
unfolding conf_at regular_at transitional_at ring_at number_to
conf_only P end bytes is = search (ok_only, fault_only, cond_only, bind_only, byte_only, number_only) depth 9

pub header_only : (words : Words) (P : TextFault → Type 0) (bytes : List ℕ) → P faults.Header → P faults.Truncated → Only P (header_at words bytes)
unfolding header_at header_end
header_only words P bytes is short = search (ok_only, fault_only, cond_only, bind_only, byte_only, word_only) depth 9

-- ---- lines

pub members_only : (version : Version) (P : TextFault → Type 0) (room last : ℕ) (bytes : List ℕ) → OfEntries P → Only P (members_at version room last bytes)
unfolding members_at
members_only version P zero last bytes is = fault_only P faults.TooMany is.many
members_only version P (suc room) last bytes is =
    search (ok_only, fault_only, cond_only, bind_only, process_only, members_only version P room) depth 12

pub change_only : (version : Version) (P : TextFault → Type 0) (full : Bool) (bytes : List ℕ) → OfEntries P → Only P (change_at version full bytes)
unfolding change_at
change_only version P full bytes is = search (ok_only, fault_only, cond_only, bind_only, word_only, conf_only, members_only) depth 8

-- a send in a log that may have it
pub sent_only : (P : TextFault → Type 0) (bytes : List ℕ) → OfNames P → Only P (send_at false bytes)
unfolding send_at service_at message_at ring_at number_to
sent_only P bytes is = search (ok_only, fault_only, cond_only, bind_only, byte_only, word_only, conf_only, number_only) depth 12

pub send_only : (P : TextFault → Type 0) (full : Bool) (bytes : List ℕ) → OfNames P → P faults.TooMany → Only P (send_at full bytes)
unfolding send_at
send_only P true bytes is many = fault_only P faults.TooMany many
send_only P false bytes is many = sent_only P bytes is

pub delivered_only : (P : TextFault → Type 0) (bytes : List ℕ) → OfNames P → Only P (delivery_at false bytes)
unfolding delivery_at message_at ring_at number_to
delivered_only P bytes is = search (ok_only, fault_only, cond_only, bind_only, word_only, conf_only, number_only) depth 10

pub delivery_only : (P : TextFault → Type 0) (full : Bool) (bytes : List ℕ) → OfNames P → P faults.TooMany → Only P (delivery_at full bytes)
unfolding delivery_at
delivery_only P true bytes is many = fault_only P faults.TooMany many
delivery_only P false bytes is many = delivered_only P bytes is

pub lost_only : (P : TextFault → Type 0) (bytes : List ℕ) → OfNames P → Only P (fail_at false bytes)
unfolding fail_at
lost_only P bytes is = search (ok_only, fault_only, cond_only, bind_only, conf_only)

pub fail_only : (P : TextFault → Type 0) (full : Bool) (bytes : List ℕ) → OfNames P → P faults.TooMany → Only P (fail_at full bytes)
unfolding fail_at
fail_only P true bytes is many = fault_only P faults.TooMany many
fail_only P false bytes is many = lost_only P bytes is

pub open_only : (P : TextFault → Type 0) (some failed : Bool) (bytes : List ℕ) → OfNames P → P faults.End → Only P (open_at some failed bytes)
unfolding open_at
open_only P some failed bytes is end = search (ok_only, fault_only, cond_only, bind_only, word_only)

pub quiet_only : (P : TextFault → Type 0) (written some failed : Bool) (bytes : List ℕ) → OfNames P → P faults.End → Only P (quiet_at written some failed bytes)
unfolding quiet_at
quiet_only P written some failed bytes is end = search (ok_only, fault_only, cond_only, bind_only, word_only)

pub failed_only : (P : TextFault → Type 0) (failed : Bool) (bytes : List ℕ) → OfNames P → P faults.End → Only P (failed_at failed bytes)
unfolding failed_at
failed_only P failed bytes is end = search (ok_only, fault_only, cond_only, bind_only, word_only)

pub failure_only : (P : TextFault → Type 0) (full failed : Bool) (bytes : List ℕ) → OfNames P → P faults.TooMany → P faults.End → Only P (failure_at full failed bytes)
unfolding failure_at ail_at
failure_only P full failed bytes is many end = search (fault_only, cond_only, bind_only, byte_only, word_only, failed_only, fail_only) depth 12

pub line_only : (version : Version) (P : TextFault → Type 0) (full some failed : Bool) (bytes : List ℕ) → OfEntries P → P faults.End → Only P (line_at version full some failed bytes)
unfolding line_at
line_only version P full some failed bytes is end =
    search (fault_only, cond_only, bind_only, byte_only, change_only, send_only, delivery_only, failure_only, open_only, quiet_only) depth 12

-- ---- between records

pub proc_only : (words : Words) (version : Version) (P : TextFault → Type 0) (last : ℕ) (bytes : List ℕ) → OfNames P → P faults.Order → Only P (proc_at words version last bytes)
unfolding proc_at
proc_only words version P last bytes is order = search (ok_only, fault_only, cond_only, bind_only, word_only, process_only) depth 8

pub end_only : (P : TextFault → Type 0) (bytes : List ℕ) → OfNames P → Only P (end_at bytes)
unfolding end_at
end_only P bytes is = search (ok_only, bind_only, word_only)

pub head_only : (words : Words) (version : Version) (P : TextFault → Type 0) (full : Bool) (last : ℕ) (bytes : List ℕ) → OfNames P → P faults.Order → P faults.TooMany → Only P (head_at words version full last bytes)
unfolding head_at begin_at
head_only words version P full last bytes is order many = search (ok_only, fault_only, cond_only, bind_only, byte_only, proc_only, end_only) depth 8

pub records_only : {X R : Type 0} (words : Words) (rest_at : Version → ℕ → List ℕ → Parsed X) (made : ℕ → X → R) (P : TextFault → Type 0) → OfNames P → P faults.Order → P faults.TooMany → ((version : Version) (p : ℕ) (bytes : List ℕ) → Only P (rest_at version p bytes)) → (version : Version) (room last : ℕ) (bytes : List ℕ) → Only P (records_at words rest_at made version room last bytes)
unfolding records_at
records_only words rest_at made P is order many rests version zero last bytes = fault_only P faults.TooMany many
records_only {X = X} {R = R} words rest_at made P is order many rests version (suc room) last bytes = bind_only P _ _ (head_only words version P (room == 0) last bytes is order many) (λ head. go head.0 head.1 (λ p rest. records_only words rest_at made P is order many rests version room p rest))
  where
    go : (head : Option ℕ) (rest : List ℕ) → ((p : ℕ) (rest : List ℕ) → Only P (records_at words rest_at made version room p rest)) → Only P (by_head {Y = Parsed (List R)} head (Ok ([], rest)) (λ p. rest_at version p rest >>= λ x. records_at words rest_at made version room p x.1 >>= λ others. Ok (made p x.0 ∷ others.0, others.1)))
    go None rest again = ok_only P _
    go (Some p) rest again = bind_only P _ _ (rests version p rest) (λ x. bind_only P _ _ (again p x.1) (λ others. ok_only P _))
