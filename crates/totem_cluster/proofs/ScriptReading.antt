-- Reading a script: byte after byte, and no further than is looked at.
use Rattle.totem_names.proofs.Common.{◌≡◌, ◌≢◌, ◌⊎◌, ℕ, zero, suc, ◌==◌, ◌≤◌, List, [], ◌∷◌, ◌++◌, length, take, cond, Bool, true, false, Option, None, Some, Ok, Err, IfSome, inl, inr, refl, sym, ap, ◌∙◌, arith, Consumes, Keeps, IsAtEnd, take_all, append-nil, Seen}
use Rattle.totem_script.proofs.Common.{logs_in, run_of}
use Rattle.std.proofs.Math.Seq.{take-append_seam}
use Rattle.totem_names.specs.Writing.{Held}
use Rattle.totem_evs.specs.declared.run.Run.{Run}
use Rattle.totem_script.specs.Lines.{longer_line, lines_of}
use Rattle.totem_script.specs.declared.script_fault.FaultyLine.{FaultyLine}
use Rattle.totem_script.specs.declared.script_fault.ScriptFault.{ScriptFault}
use Rattle.totem_script.specs.declared.script_fault.ScriptFault.TheVariants as script_faults
use Rattle.totem_script.specs.Simulation.{Told, FailsAt, and_then, all_played, simulate}
use Rattle.totem_cluster.specs.IoFaults.{script_io_fault}
use Rattle.totem_cluster.specs.SimIo.{most_read, IsRead, BreaksOff, IsReading, IsBehind, IsNoScript, IsUnread, IsUnmade}

-- ---- no further than is looked at

-- one byte more than is allowed decides
pub front_lines : (room : ℕ) (bytes : List ℕ) → lines_of room (take (suc room) bytes) ≡ lines_of room bytes
unfolding lines_of
front_lines room [] = refl
front_lines zero (b ∷ bytes) = refl
front_lines (suc room) (b ∷ bytes) = ap (λ ls. cond (b == 10) (Ok [] ∷ ls) (longer_line b ls)) (front_lines room bytes)

pub reads_front : (bytes : List ℕ) → simulate (take most_read bytes) ≡ simulate bytes
unfolding simulate
reads_front bytes = ap (λ lines. and_then (all_played lines) (λ scene. Ok (run_of scene.version (logs_in scene.actors)))) (front_lines 65536 bytes)

-- what a script that was read makes, all of it makes
pub of_all : (a : Option (List ℕ)) (read : List ℕ) (answer : Told Run) → IfSome a (λ bytes. read ≡ take most_read bytes) → simulate read ≡ answer
    → IfSome a (λ bytes. simulate bytes ≡ answer)
of_all None read answer whole made = tt
of_all (Some bytes) read answer whole made = sym (reads_front bytes) ∙ ap simulate (sym whole) ∙ made

-- ---- byte after byte

-- what was read so far
pub record SoFar (a b : Seen) (read : List ℕ) (count : ℕ) : Type 0 where
  pub taken : Consumes a.remaining b.remaining read
  pub failures : b.failures ≡ a.failures
  pub counted : length read ≡ count

kept : (a b c : Option (List ℕ)) (read : List ℕ) → Consumes a b read → Keeps b c → Consumes a c read
kept None b c read p q = tt
kept (Some s) None c read p q = absurd p
kept (Some s) (Some t) None read p q = absurd q
kept (Some s) (Some t) (Some u) read p q = p ∙ ap (λ ws. read ++ ws) (sym q)

all_of : (a b : Option (List ℕ)) (read : List ℕ) → Consumes a b read → IsAtEnd b → length read ≤ most_read → IfSome a (λ bytes. read ≡ take most_read bytes)
all_of None b read p at few = tt
all_of (Some s) None read p at few = absurd p
all_of (Some s) (Some t) read p at few =
    let whole : s ≡ read = p ∙ ap (λ ws. read ++ ws) at ∙ append-nil read in
    sym (ap (take most_read) whole ∙ take_all most_read read few)

front_of : (a b : Option (List ℕ)) (read : List ℕ) → Consumes a b read → length read ≡ most_read → IfSome a (λ bytes. read ≡ take most_read bytes)
front_of None b read p many = tt
front_of (Some s) None read p many = absurd p
front_of (Some s) (Some t) read p many = sym (ap (take most_read) p ∙ ap (λ n. take n (read ++ t)) (sym many) ∙ take-append_seam read t)

-- the input has ended
pub read_to_end : (a b c : Seen) (read : List ℕ) (count : ℕ) → SoFar a b read count → count ≤ most_read → IsAtEnd b.remaining → Keeps b.remaining c.remaining → c.failures ≡ b.failures
    → IsRead a c read
read_to_end a b c read count far few at keeps failures = record {
  taken = kept a.remaining b.remaining c.remaining read far.taken keeps;
  whole = all_of a.remaining b.remaining read far.taken at (omega (arith, far.counted, few));
  failures = failures ∙ far.failures;
}

-- it is longer than what is read
pub read_far : (a b : Seen) (read : List ℕ) (count : ℕ) → SoFar a b read count → count ≡ most_read → IsRead a b read
read_far a b read count far many = record {
  taken = far.taken;
  whole = front_of a.remaining b.remaining read far.taken (far.counted ∙ many);
  failures = far.failures;
}

-- ---- the run

-- the input ended, or was read up to the limit
pub read_whole : (a b : Seen) (read : List ℕ) (failed : Bool) → IsReading failed a b read → failed ≡ false → IsRead a b read
read_whole a b read false is unfailed = is
read_whole a b read true is unfailed = absurd cc

-- the source failed
pub read_short : (a b : Seen) (read : List ℕ) (failed : Bool) → IsReading failed a b read → failed ≡ true → BreaksOff a b read
read_short a b read true is failed = is
read_short a b read false is failed = absurd cc

in_line : (a c : Seen) (was : Held) (kind : ScriptFault) (line : ℕ)
    (why : kind ≢ script_faults.Memory → IsNoScript a c (record { kind = kind; line = line }) ⊎ IsUnread a c (record { kind = kind; line = line }))
    → IsUnmade a c was was (script_io_fault kind) line
in_line a c was script_faults.Header line why = (refl, why (λ e. cc))
in_line a c was script_faults.Word line why = (refl, why (λ e. cc))
in_line a c was script_faults.Number line why = (refl, why (λ e. cc))
in_line a c was script_faults.Order line why = (refl, why (λ e. cc))
in_line a c was script_faults.Members line why = (refl, why (λ e. cc))
in_line a c was script_faults.Place line why = (refl, why (λ e. cc))
in_line a c was script_faults.End line why = (refl, why (λ e. cc))
in_line a c was script_faults.Truncated line why = (refl, why (λ e. cc))
in_line a c was script_faults.TooMany line why = (refl, why (λ e. cc))
in_line a c was script_faults.Read line why = (refl, why (λ e. cc))
in_line a c was script_faults.Memory line why = refl

-- the script makes no run
pub no_run : (a c : Seen) (was : Held) (read : List ℕ) (fault : FaultyLine) → IsRead a c read → FailsAt fault (simulate read)
    → IsUnmade a c was was (script_io_fault fault.kind) fault.line
no_run a c was read fault whole fails =
    in_line a c was fault.kind fault.line (λ other.
    let made = fails.is other in
    inl (record { read = read; is_read = whole; made = made; of_all = of_all a.remaining read (Err fault) whole.whole made }))

-- its source failed before its end
pub not_read : (a c : Seen) (was : Held) (read : List ℕ) (fault : FaultyLine) → BreaksOff a c read → IsBehind fault read
    → IsUnmade a c was was (script_io_fault fault.kind) fault.line
not_read a c was read fault breaks behind =
    in_line a c was fault.kind fault.line (λ other. inr (record { read = read; breaks_off = breaks; fault_is = behind.is other }))
