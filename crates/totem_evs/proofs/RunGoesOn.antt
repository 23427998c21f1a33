-- Where the text of a run is too short, some text continues it.
use Rattle.totem_evs.proofs.Common.{◌==◌, ◌≡◌, ℕ, zero, suc, ◌<◌, List, [], ◌∷◌, ◌++◌, Option, Some, None, Ok, Err, Bool, true, false, refl, sym, ◌∙◌, ap, append_assoc, arith, RunRecord, writes_quiet, Version, process_text, IsProcessIn, nat_tests, append-nil, Regular, TextFault, line, entry_text, ending_text, header_text, run_text, IsFront, IsLooseEntry, IsLooseLog, IsLooseRun, IsLooseFront, IsFirstWrong}
use Rattle.totem_names.specs.declared.fault.TextFault.TheVariants as faults
use Rattle.totem_names.specs.Sources.{Parsed, Follows, FirstBreak, is_short, ◌>>=◌}
use Rattle.totem_evs.specs.declared.entry.Entry.{Entry}
use Rattle.totem_evs.specs.declared.entry.Entry.TheVariants.{Fail}
use Rattle.totem_evs.specs.declared.ending.Ending.{Ending}
use Rattle.totem_evs.specs.declared.ending.Ending.TheVariants.{Failed}
use Rattle.totem_evs.specs.declared.lines.Line.{Line}
use Rattle.totem_evs.specs.declared.lines.Line.TheVariants as lines
use Rattle.totem_evs.specs.declared.log.Log.{Log}
use Rattle.totem_evs.specs.Heads.{records_at, by_head}
use Rattle.totem_evs.specs.RunGrammar.{is_failure, by_line, lines_at, log_at, run_words, logs_at, run_at}
use Rattle.totem_evs.proofs.LooseFrom.{EachLoosely, entry_loosely, loose_entries, LooseLogsFrom, log_loosely, is_loose_run}
use Rattle.totem_evs.proofs.SpelledLine.{IsLineOf, IsLine, line_text, line_is}
use Rattle.totem_evs.proofs.SpelledLog.{entries_text, body_text, ends_in_failure, ending_if, ends_if, IsBodyOf, closing, closed_by, word_so, some_of, log_is}
use Rattle.totem_evs.proofs.SpelledHeads.{head_text, IsHead, head_is, header_is}
use Rattle.totem_evs.proofs.SpelledRun.{logs_text, logs_parts, run_parts, no_run}
use Rattle.totem_evs.proofs.SteadyRun.{run_steady, run_first_break}
use Rattle.totem_evs.proofs.GoesOn.{Cut, Splits, ok_cut, fault_cut, bind_cut, last_cut, first_ring, first_ring_is}
use Rattle.totem_evs.proofs.HeadsGoOn.{IsLooseHead, head_cut, header_cut}
use Rattle.totem_evs.proofs.LineGoesOn.{line_cut}

-- ---- the lines of a log

abbrev pub BodyTo : Version → ℕ → Bool → Bool → List ℕ → Type 0
BodyTo version room some failed t = (es : List Entry) × (ending : Ending) × IsBodyOf (EachLoosely version) (writes_quiet version) room some failed es ending × (t ≡ body_text version es ending [])

not_zero : (n : ℕ) → (n == 0) ≡ false → 0 < n
not_zero n h = grind (arith, nat_tests)

-- a line before the closing word
body_from : (version : Version) (room : ℕ) (some failed : Bool) (l : Line) (t : List ℕ) → (failed ≡ true → some ≡ true) → IsLineOf (IsLooseEntry version) (writes_quiet version) (room == 0) some failed l → t ≡ line_text version l → (u : List ℕ) × BodyTo version (suc room) some failed (t ++ u)
body_from version room some failed (lines.Close x) t so is e = ([], ([], x, closing (IsLooseEntry version) (EachLoosely version) tt (writes_quiet version) room (room == 0) some failed x so is, ap (λ (k : List ℕ). k ++ []) e))
body_from version room some failed (lines.Entry x) t so is e =
    let u = body_text version [] (ending_if (is_failure x)) [] in
    let few : 0 < room = not_zero room is.0 in
    (u, (x ∷ [], ending_if (is_failure x), record { few = omega (arith, few); entries = is.1; has = refl; ends = ends_if (writes_quiet version) (is_failure x) }, ap (λ (k : List ℕ). k ++ u) (e ∙ sym (append-nil (line (entry_text (process_text version) x))))))

body_step : (version : Version) (room : ℕ) (some failed : Bool) (l : Line) (bytes rest : List ℕ) → IsLine version (room == 0) some failed l × (bytes ≡ line_text version l ++ rest)
    → ((x : Entry) → Cut (lines_at version room true (is_failure x) rest) (BodyTo version room true (is_failure x)) rest)
    → Splits (by_line {Y = Parsed (List Entry × Ending)} l (λ ending. Ok (([], ending), rest)) (λ e. lines_at version room true (is_failure e) rest >>= λ others. Ok ((e ∷ others.0.0, others.0.1), others.1))) (BodyTo version (suc room) some failed) bytes rest
body_step version room some failed (lines.Close x) bytes rest found again = record { text = line_text version (lines.Close x); whole = found.1; next = ok_cut _ _ _ }
body_step version room some failed (lines.Entry x) bytes rest found again = record {
  text = line_text version (lines.Entry x);
  whole = found.1;
  next = last_cut _ _ _ _ _ (again x)
      (λ t b. (x ∷ b.0, b.1, record { few = omega (arith, b.2.few); entries = entry_loosely version x b.0 found.0.1 b.2.entries; has = refl; ends = b.2.ends }, ap (λ (k : List ℕ). line (entry_text (process_text version) x) ++ k) b.3 ∙ sym (append_assoc (line (entry_text (process_text version) x)) (entries_text version b.0) (line (ending_text b.1) ++ []))));
}

lines_cut : (version : Version) (room : ℕ) (some failed : Bool) (bytes : List ℕ) → (some ≡ false → 1 < room) → (failed ≡ true → some ≡ true) → Cut (lines_at version room some failed bytes) (BodyTo version room some failed) bytes
unfolding lines_at
lines_cut version zero some failed bytes more so = fault_cut _ _ _ refl
lines_cut version (suc room) some failed bytes more so =
    bind_cut _ _ _ _ _
    (line_cut version (room == 0) some failed bytes (λ h. let lt : 1 < suc room = more h in let k : 0 < room = omega (arith, lt) in grind (arith, nat_tests)))
    (λ t x. body_from version room some failed x.0 t so x.1 x.2)
    (λ l rest e. body_step version room some failed l bytes rest (line_is version (room == 0) some failed l bytes rest e) (λ x. lines_cut version room true (is_failure x) rest (λ h. absurd cc) (λ h. refl)))

-- ---- a log

made_log : (version : Version) (p : ℕ) (es : List Entry) (ending : Ending) → IsProcessIn version p → IsBodyOf (EachLoosely version) (writes_quiet version) 1000001 false false es ending → IsLooseLog version (record { proc = p; entries = es; ending = ending })
made_log version p es ending process body = grind (arith, loose_entries, some_of, closed_by, word_so, ends_in_failure)

abbrev pub LogTo : Version → ℕ → List ℕ → Type 0
LogTo version p t = (log : Log) × IsLooseLog version log × (log.proc ≡ p) × (t ≡ body_text version log.entries log.ending [])

log_cut : (version : Version) (p : ℕ) (bytes : List ℕ) → IsProcessIn version p → Cut (log_at version p bytes) (LogTo version p) bytes
unfolding log_at
log_cut version p bytes process =
    last_cut {B = Log} _ _ _ _ _ (lines_cut version 1000001 false false bytes (λ h. omega arith) (λ h. absurd cc))
    (λ t b. (record { proc = p; entries = b.0; ending = b.1 }, made_log version p b.0 b.1 process b.2, refl, b.3))

-- ---- logs

abbrev pub LogsTo : Version → ℕ → ℕ → List ℕ → Type 0
LogsTo version room last t = (logs : List Log) × LooseLogsFrom version room last logs × (t ≡ logs_text version logs [])

body_more : (version : Version) (es : List Entry) (ending : Ending) (rest : List ℕ) → body_text version es ending [] ++ rest ≡ body_text version es ending rest
body_more version es ending rest = append_assoc (entries_text version es) (line (ending_text ending) ++ []) rest ∙ ap (λ (k : List ℕ). entries_text version es ++ k) (append_assoc (line (ending_text ending)) [] rest)

joined : (version : Version) (p : ℕ) (log : Log) (logs : List Log) (t : List ℕ) → log.proc ≡ p → t ≡ logs_text version logs [] → head_text run_words version (Some p) ++ (body_text version log.entries log.ending [] ++ t) ≡ logs_text version (log ∷ logs) []
joined version p log logs t same e = grind (arith, head_text, body_more, body_text, logs_text, logs_parts)

-- a log of one failure
first_log : ℕ → Log
first_log p = record { proc = p; entries = Fail (Regular first_ring) ∷ []; ending = Failed }

first_log_is : (version : Version) (p : ℕ) → IsProcessIn version p → IsLooseLog version (first_log p)
unfolding first_log
first_log_is version p process = made_log version p (Fail (Regular first_ring) ∷ []) Failed process (record { few = omega arith; entries = first_ring_is; has = refl; ends = refl })

-- the last line, or the first line of a log before its other lines
logs_from : (version : Version) (room last : ℕ) (head : Option ℕ) (t : List ℕ) → IsLooseHead version (room == 0) head → t ≡ head_text run_words version head → (u : List ℕ) × LogsTo version (suc room) last (t ++ u)
unfolding first_log
logs_from version room last None t is e = ([], ([], record { few = omega arith; rises = tt }, ap (λ (k : List ℕ). k ++ []) e))
logs_from version room last (Some p) t is e =
    let log = first_log p in
    let u = body_text version log.entries log.ending [] ++ logs_text version [] [] in
    let few : 0 < room = not_zero room is.0 in
    (u, (log ∷ [], record { few = omega (arith, few); rises = first_log_is version p is.1 }, ap (λ (k : List ℕ). k ++ u) e ∙ joined version p log [] (logs_text version [] []) refl refl))

logs_step : (version : Version) (room last : ℕ) (head : Option ℕ) (bytes rest : List ℕ) → IsHead version (room == 0) last head × (bytes ≡ head_text run_words version head ++ rest)
    → ((p : ℕ) (rest2 : List ℕ) → Cut (logs_at version room p rest2) (LogsTo version room p) rest2)
    → Splits (by_head {Y = Parsed (List Log)} head (Ok ([], rest)) (λ p. log_at version p rest >>= λ log. logs_at version room p log.1 >>= λ others. Ok (log.0 ∷ others.0, others.1))) (LogsTo version (suc room) last) bytes rest
logs_step version room last None bytes rest found again = record { text = head_text run_words version None; whole = found.1; next = ok_cut _ _ _ }
logs_step version room last (Some p) bytes rest found again =
    let few : 0 < room = not_zero room found.0.0 in
    record {
      text = head_text run_words version (Some p);
      whole = found.1;
      next = bind_cut _ _ _ _ _ (log_cut version p rest found.0.2)
          (λ t x. (logs_text version [] [], (x.0 ∷ [], record { few = omega (arith, few); rises = x.1 }, ap (λ (k : List ℕ). head_text run_words version (Some p) ++ (k ++ logs_text version [] [])) x.3 ∙ joined version p x.0 [] (logs_text version [] []) x.2 refl)))
          (λ log rest2 e2.
          let one = log_is version p log rest rest2 found.0.2 e2 in
          record {
            text = body_text version log.entries log.ending [];
            whole = one.2 ∙ sym (body_more version log.entries log.ending rest2);
            next = last_cut _ _ _ _ _ (again p rest2)
                (λ t x. (log ∷ x.0, record { few = omega (arith, x.1.few); rises = log_loosely version last log x.0 (rw one.1 found.0.1) one.0 (rw one.1 x.1.rises) }, joined version p log x.0 t one.1 x.2));
          });
    }

logs_cut : (version : Version) (room last : ℕ) (bytes : List ℕ) → Cut (logs_at version room last bytes) (LogsTo version room last) bytes
unfolding records_at
logs_cut version zero last bytes = fault_cut _ _ _ refl
logs_cut version (suc room) last bytes =
    bind_cut _ _ _ _ _ (head_cut run_words version (room == 0) last bytes)
    (λ t x. logs_from version room last x.0 t x.1 x.2)
    (λ head rest e. logs_step version room last head bytes rest (head_is run_words version (room == 0) last head bytes rest e) (λ p rest2. logs_cut version room p rest2))

-- ---- runs

abbrev pub RunTo : List ℕ → Type 0
RunTo t = (run : RunRecord) × IsLooseRun run.version run.logs × (run_text run ≡ t)

run_of : (version : Version) (logs : List Log) (t : List ℕ) → LooseLogsFrom version 33 0 logs → t ≡ logs_text version logs [] → RunTo (header_text version ++ t)
run_of version logs t is e =
    let run : RunRecord = record { version = version; logs = logs } in
    (run, is_loose_run version logs is, sym (append-nil (run_text run)) ∙ run_parts run [] ∙ ap (λ (k : List ℕ). header_text version ++ k) (sym e))

run_cut : (bytes : List ℕ) → Cut (run_at bytes) RunTo bytes
unfolding run_at
run_cut bytes =
    bind_cut _ _ _ _ _ (header_cut run_words bytes)
    (λ t x. (logs_text x.0 [] [], rw x.2 (run_of x.0 [] (logs_text x.0 [] []) (record { few = omega arith; rises = tt }) refl)))
    (λ v rest e. record {
      text = header_text v;
      whole = (header_is run_words v bytes rest e).1;
      next = last_cut {B = RunRecord} _ _ _ _ _ (logs_cut v 33 0 rest) (λ t x. run_of v x.0 t x.1 x.2);
    })

pub cut_front : (bytes : List ℕ) → run_at bytes ≡ Err faults.Truncated → IsLooseFront bytes
cut_front bytes e = let found = (run_cut bytes).goes e in (found.1.0, found.0, found.1.1, found.1.2)

-- where the grammar finds a fault, no run's text begins with the bytes
no_front : (bytes : List ℕ) (fault : TextFault) → run_at bytes ≡ Err fault → is_short fault ≡ false → IsFront bytes → ⊥
no_front bytes fault e long h =
    let stays : Follows h.1 (run_at bytes) (run_at (bytes ++ h.1)) = run_steady.stays bytes h.1 in
    no_run (bytes ++ h.1) fault ((rw e at stays) long) h.0 [] h.2 (sym h.3 ∙ sym (append-nil (run_text h.0)))

pub first_wrong : (bytes : List ℕ) (fault : TextFault) → run_at bytes ≡ Err fault → is_short fault ≡ false → (break : FirstBreak run_at bytes fault) × IsFirstWrong break.front break.byte
first_wrong bytes fault e long =
    let b = run_first_break bytes fault long e in
    (b, record { before = cut_front b.front b.before; wrong = no_front (b.front ++ b.byte ∷ []) fault b.at long })
