-- A run from its parts: the result of each call of the reader of parts.
use Rattle.std.proofs.Common.{arith}
use Rattle.totem_evs.proofs.Common.{◌≡◌, [], subst, ℕ, List, ◌++◌, Some, None, Ok, Err, refl, sym, ap, ◌∙◌, append_assoc, RunRecord, IsRunOf, Consumes, Keeps, append-nil, Seen, Parsed, Comes, ◌>>=◌, called, failed, same_left, begins, breaks_at, wants_rest, run_text, part_at, first_stage, next_stage, ReadState, ReadsAs, HasBegun, BeginsRun, HasPart, HasEnded, FitsPart, LacksLog, ReadsPart, IsRead, FitsRun, LacksRun, ReadsRun, GatheredLogs, none_gathered, gathered}
use Rattle.totem_names.specs.declared.life.WrittenProc.{WrittenProc}
use Rattle.totem_names.specs.declared.fault.TextFault.TheVariants as text
use Rattle.totem_names.specs.declared.fault.ReadError.TheVariants as errors
use Rattle.totem_names.proofs.AtHand.{kept_none}
use Rattle.totem_evs.specs.declared.part.Part.{Part}
use Rattle.totem_evs.specs.declared.run_fault.RunFault.{RunFault}
use Rattle.totem_evs.specs.declared.run_fault.RunFault.TheVariants as faults
use Rattle.totem_evs.specs.RunGrammar.{run_words, run_at}
use Rattle.totem_evs.specs.Heads.{header_at}
use Rattle.totem_evs.proofs.SpelledRun.{run_is}
use Rattle.totem_evs.proofs.PassedOn.{run_none}
use Rattle.totem_evs.proofs.Folding.{rest_at, behind, step, first_step}
use Rattle.totem_evs.proofs.Gathers.{GathersIn, limits, goes_gathers, least_lacks}

-- what was read so far has the result of what is still read after these logs
pub record Folded (a b : Seen) (s : ReadState) (g : GatheredLogs) : Type 0 where
  pub so_far : Comes a b run_at (rest_at s.stage g)
  pub gathers : GathersIn s g

-- a fault is that of what was read so far and then
fault_on : {X Y W Z : Type 0} (a b c : Seen) (parse : List ℕ → Parsed Z) (sub : List ℕ → Parsed X) (k : X × List ℕ → Parsed Z) (Fits : Y → Type 0) (Fit : W → Type 0) (Lacks Lacking : WrittenProc → Type 0) (e : RunFault)
    → parse [] ≡ Err text.Truncated → Comes a b parse (λ more. sub more >>= k) → ((p : WrittenProc) → Lacks p → Lacking p) → ReadsAs {X = X} {Y = Y} b c sub Fits Lacks (Err e) → ReadsAs {X = Z} {Y = W} a c parse Fit Lacking (Err e)
fault_on a b c parse sub k Fits Fit Lacks Lacking faults.Header empty so_far lacks h = breaks_at a c parse text.Header empty refl (failed a b c parse sub k (errors.Text text.Header) so_far h.breaks)
fault_on a b c parse sub k Fits Fit Lacks Lacking faults.Word empty so_far lacks h = breaks_at a c parse text.Word empty refl (failed a b c parse sub k (errors.Text text.Word) so_far h.breaks)
fault_on a b c parse sub k Fits Fit Lacks Lacking faults.Number empty so_far lacks h = breaks_at a c parse text.Number empty refl (failed a b c parse sub k (errors.Text text.Number) so_far h.breaks)
fault_on a b c parse sub k Fits Fit Lacks Lacking faults.Order empty so_far lacks h = breaks_at a c parse text.Order empty refl (failed a b c parse sub k (errors.Text text.Order) so_far h.breaks)
fault_on a b c parse sub k Fits Fit Lacks Lacking faults.Members empty so_far lacks h = breaks_at a c parse text.Members empty refl (failed a b c parse sub k (errors.Text text.Members) so_far h.breaks)
fault_on a b c parse sub k Fits Fit Lacks Lacking faults.End empty so_far lacks h = breaks_at a c parse text.End empty refl (failed a b c parse sub k (errors.Text text.End) so_far h.breaks)
fault_on a b c parse sub k Fits Fit Lacks Lacking faults.TooMany empty so_far lacks h = breaks_at a c parse text.TooMany empty refl (failed a b c parse sub k (errors.Text text.TooMany) so_far h.breaks)
fault_on a b c parse sub k Fits Fit Lacks Lacking faults.Truncated empty so_far lacks h = failed a b c parse sub k (errors.Text text.Truncated) so_far h
fault_on a b c parse sub k Fits Fit Lacks Lacking (faults.MissingLog p) empty so_far lacks h = lacks p h
fault_on a b c parse sub k Fits Fit Lacks Lacking faults.Read empty so_far lacks h = failed a b c parse sub k errors.Read so_far h
fault_on a b c parse sub k Fits Fit Lacks Lacking faults.Memory empty so_far lacks h = h ∙ so_far.failures

-- the first line, and what follows it
opens : (a : Seen) → Comes a a run_at (λ more. header_at run_words more >>= λ v. rest_at (first_stage v.0) none_gathered v.1)
opens a = same_left a a run_at run_at (λ more. header_at run_words more >>= λ v. rest_at (first_stage v.0) none_gathered v.1) (begins a run_at) first_step

-- the first line was not read
pub first_fault : (a c : Seen) (e : RunFault) → BeginsRun a c (Err e) → ReadsRun a c (Err e)
first_fault a c e h = fault_on a a c run_at (header_at run_words) (λ v. rest_at (first_stage v.0) none_gathered v.1) (HasBegun a c) (FitsRun a c) (λ p. ⊥) (LacksRun a c) e run_none (opens a) (λ p lacks. absurd lacks) h

-- the first line was read
pub first_folded : (a c : Seen) (s : ReadState) → HasBegun a c s → (GathersIn s none_gathered) → Folded a c s none_gathered
first_folded a c s begun gathers = record {
  so_far = same_left a c run_at (λ more. rest_at (first_stage begun.version) none_gathered more) (rest_at s.stage none_gathered)
      (called a a c run_at (header_at run_words) (λ v. rest_at (first_stage v.0) none_gathered v.1) begun.version (opens a) begun.taken)
      (λ more. ap (λ st. rest_at st none_gathered more) (sym begun.first.stage));
  gathers = gathers;
}

-- what follows the logs so far, part by part
follows : (a b : Seen) (s : ReadState) (g : GatheredLogs) → Folded a b s g → Comes a b run_at (λ more. part_at s.stage more >>= λ x. behind s.stage g x.0 x.1)
follows a b s g h = same_left a b run_at (rest_at s.stage g) (λ more. part_at s.stage more >>= λ x. behind s.stage g x.0 x.1) h.so_far
    (step s.stage g h.gathers.few (limits s g h.gathers).0 (limits s g h.gathers).1)

-- nothing was read
pub folded_still : (a b c : Seen) (s t : ReadState) (g : GatheredLogs) → Folded a b s g → Keeps b.remaining c.remaining → c.failures ≡ b.failures → t ≡ s → Folded a c t g
folded_still a b c s t g h keeps failures same = grind (arith, kept_none, rest_at, append_assoc, wants_rest)

-- a part was read
pub part_folded : (a b c : Seen) (s t : ReadState) (g : GatheredLogs) (part : Part) → Folded a b s g → HasPart b c s part t → Folded a c t (gathered g part)
part_folded a b c s t g part h next = record {
  so_far = same_left a c run_at (λ more. rest_at (next_stage s.stage part) (gathered g part) more) (rest_at t.stage (gathered g part))
      (called a b c run_at (part_at s.stage) (λ x. behind s.stage g x.0 x.1) (Some part) (follows a b s g h) next.taken)
      (λ more. ap (λ st. rest_at st (gathered g part) more) (sym next.goes.stage));
  gathers = goes_gathers s t part g h.gathers next.is next.comes next.goes;
}

-- what was read as a run keeps the rules of a run, and is its text
as_text : (a c : Seen) (run : RunRecord) → Comes a c run_at (λ more. Ok (run, more)) → IsRunOf run × Consumes a.remaining c.remaining (run_text run)
as_text a c run h =
    let found = run_is run (h.read ++ []) [] (h.left []) in
    (found.0, subst (λ (t : List ℕ). Consumes a.remaining c.remaining t) (sym (append-nil h.read) ∙ found.1 ∙ append-nil (run_text run)) h.taken)

-- the run of these logs
abbrev pub run_of : ReadState → GatheredLogs → RunRecord
run_of s g = record { version = s.stage.version; logs = g.logs }

-- the last line was read
pub end_folded : (a b c : Seen) (s : ReadState) (g : GatheredLogs) → Folded a b s g → HasEnded b c s → IsRead a c (run_of s g)
end_folded a b c s g h ended =
    let whole = called a b c run_at (part_at s.stage) (λ x. behind s.stage g x.0 x.1) None (follows a b s g h) ended.taken in
    record { is = (as_text a c (run_of s g) whole).0; taken = whole; text = (as_text a c (run_of s g) whole).1 }

-- a part was not read, or the run is at its end and a member has no log
pub next_fault : (a b c : Seen) (s t : ReadState) (g : GatheredLogs) (e : RunFault) → Folded a b s g → ReadsPart b c s t (Err e) → ReadsRun a c (Err e)
next_fault a b c s t g e h fault = fault_on a b c run_at (part_at s.stage) (λ x. behind s.stage g x.0 x.1) (FitsPart b c s t) (FitsRun a c) (LacksLog b c s) (LacksRun a c) e run_none (follows a b s g h)
    (λ p lacks. (run_of s g, end_folded a b c s g h lacks.0, lacks.1, least_lacks s g p.process h.gathers lacks.0.comes lacks.2 lacks.3)) fault
