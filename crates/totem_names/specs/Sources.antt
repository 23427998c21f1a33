-- What a parser returns, and what a reader of a source returns and leaves unread.
use Rattle.std.specs.Prelude.{◌≡◌, ℕ, ◌+◌, ◌%◌, ◌^◌, List, [], ◌∷◌, ◌++◌, Bool, true, false, Some, IfSome, Result, Ok, Err, drop}
use Rattle.std.specs.declared.option.Option.{Option}
use Rattle.std.specs.Io.KnownBytes.{Consumes}
use Rattle.totem_names.specs.declared.fault.TextFault.{TextFault}
use Rattle.totem_names.specs.declared.fault.TextFault.TheVariants.{Header, Word, Number, Order, Members, End, Truncated, TooMany}
use Rattle.totem_names.specs.declared.fault.ReadError.{ReadError}
use Rattle.totem_names.specs.declared.fault.ReadError.TheVariants as errors

-- ---- parsers

-- a value and the bytes after it, or a fault
abbrev pub Parsed : Type 0 → Type 0
Parsed Y = Result (Y × List ℕ) TextFault

-- one part after the other: the second goes by the value of the first, and a fault stays
infixl 10 ◌>>=◌
abbrev pub ◌>>=◌ : {A B E : Type 0} → Result A E → (A → Result B E) → Result B E
(Ok x) >>= f = f x
(Err e) >>= f = Err e

-- the fault of a text that is too short; each other fault is that of a byte
abbrev pub is_short : TextFault → Bool
is_short Header = false
is_short Word = false
is_short Number = false
is_short Order = false
is_short Members = false
is_short End = false
is_short Truncated = true
is_short TooMany = false

-- the result once more bytes have arrived: the same value or fault, unless the text was too short
abbrev pub Follows : {Y : Type 0} → List ℕ → Parsed Y → Parsed Y → Type 0
Follows more (Ok x) later = later ≡ Ok (x.0, x.1 ++ more)
Follows more (Err fault) later = is_short fault ≡ false → later ≡ Err fault

-- what a parser returns does not change with what follows
pub record Steady {Y : Type 0} (parse : List ℕ → Parsed Y) : Type 0 where
  pub stays : (bytes more : List ℕ) → Follows more (parse bytes) (parse (bytes ++ more))

-- no rule is broken before a byte, and one is with it
pub record FirstBreak {Y : Type 0} (parse : List ℕ → Parsed Y) (bytes : List ℕ) (fault : TextFault) : Type 0 where
  pub front : List ℕ
  pub byte : ℕ
  pub rest : List ℕ
  pub whole : bytes ≡ front ++ byte ∷ rest
  pub before : parse front ≡ Err Truncated
  pub at : parse (front ++ byte ∷ []) ≡ Err fault

-- the last of these bytes is the first that breaks a rule: those before it begin a text
pub record EndsAtBreak {Y : Type 0} (parse : List ℕ → Result Y TextFault) (bytes : List ℕ) : Type 0 where
  pub front : List ℕ
  pub byte : ℕ
  pub whole : bytes ≡ front ++ byte ∷ []
  pub before : parse front ≡ Err Truncated

-- without the last of these bytes the text is too short
abbrev pub WantsLast : {Y : Type 0} → (List ℕ → Result Y TextFault) → List ℕ → Type 0
WantsLast parse bytes = (front : List ℕ) (byte : ℕ) → bytes ≡ front ++ byte ∷ [] → parse front ≡ Err Truncated

-- these bytes settle the value, and without the last of them the text is too short
pub record Settles {Y : Type 0} (parse : List ℕ → Parsed Y) (bytes : List ℕ) (value : Y) : Type 0 where
  pub left : (more : List ℕ) → parse (bytes ++ more) ≡ Ok (value, more)
  pub before : WantsLast parse bytes

-- ---- readers

-- what is known of a source: the bytes that it has left, and how often it has failed
pub record Seen : Type 0 where
  pub remaining : Option (List ℕ)
  pub failures : ℕ

-- what the members of a source say about it
abbrev pub seen : {S : Type 0} → (S → Option (List ℕ)) → (S → ℕ) → S → Seen
seen remaining failures s = record { remaining = remaining s; failures = failures s }

-- some bytes were taken, none after the one that settled the result; whatever follows them, parsing the whole has the
-- result of parsing what follows by rest
pub record Comes {Y : Type 0} (old new : Seen) (parse rest : List ℕ → Result Y TextFault) : Type 0 where
  pub read : List ℕ
  pub taken : Consumes old.remaining new.remaining read
  pub failures : new.failures ≡ old.failures
  pub left : (more : List ℕ) → parse (read ++ more) ≡ rest more
  pub before : WantsLast parse read

-- some bytes were taken, none after the one that broke a rule, and parsing them gives a fault: whatever follows them, or
-- they are all that was left
pub record Breaks {Y : Type 0} (old new : Seen) (parse : List ℕ → Result Y TextFault) (fault : TextFault) : Type 0 where
  pub read : List ℕ
  pub taken : Consumes old.remaining new.remaining read
  pub failures : new.failures ≡ old.failures
  pub broken : parse read ≡ Err fault
  pub stays : is_short fault ≡ false → (more : List ℕ) → parse (read ++ more) ≡ Err fault
  pub whole : is_short fault ≡ true → IfSome old.remaining (λ bytes. bytes ≡ read)
  pub before : WantsLast parse read

-- the last byte taken is the first that breaks a rule, and the fault is its fault
pub record BreaksAt {Y : Type 0} (old new : Seen) (parse : List ℕ → Result Y TextFault) (fault : TextFault) : Type 0 where
  pub breaks : Breaks old new parse fault
  pub last : EndsAtBreak parse breaks.read

-- the source failed, and the bytes that were taken until then begin a text
pub record Stops {Y : Type 0} (old new : Seen) (parse : List ℕ → Result Y TextFault) : Type 0 where
  pub read : List ℕ
  pub taken : Consumes old.remaining new.remaining read
  pub failures : new.failures ≡ (old.failures + 1) % 2 ^ 64
  pub short : parse read ≡ Err Truncated

-- a reader returns what the parser returns for the bytes that it took, whatever follows them, unless the source
-- failed in this call or memory was refused
abbrev pub Reads : {Y : Type 0} → Seen → Seen → Result Y ReadError → (List ℕ → Parsed Y) → Type 0
Reads old new (Ok y) parse = Comes old new parse (λ more. Ok (y, more))
Reads old new (Err errors.Memory) parse = new.failures ≡ old.failures
Reads old new (Err errors.Read) parse = Stops old new parse
Reads old new (Err (errors.Text fault)) parse = Breaks old new parse fault

-- ---- bytes in memory

-- these bytes as a source, after the first of them
abbrev pub after : List ℕ → ℕ → Seen
after bytes at = record { remaining = Some (drop at bytes); failures = 0 }

-- a value is spelled from one index of these bytes to another
abbrev pub Stands : {Y : Type 0} → List ℕ → ℕ → ℕ → (List ℕ → Parsed Y) → Y → Type 0
Stands bytes at next parse value = Comes (after bytes at) (after bytes next) parse (λ more. Ok (value, more))
