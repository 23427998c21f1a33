-- The result of a run's grammar doesn't change with what follows.
use Rattle.totem_evs.proofs.Common.{◌==◌, ◌≡◌, ℕ, zero, suc, List, [], ◌∷◌, Bool, true, false, Option, Some, None, Ok, Err, refl, id_of, Version, process_then_steady, TextFault, Parsed, Steady, FirstBreak, is_short, ◌>>=◌, service_steady}
use Rattle.totem_names.specs.Numbers.{word_at}
use Rattle.totem_names.proofs.Steady.{gives_steady, fault_steady, bind_steady, cond_steady, byte_steady, word_steady, conf_steady, message_steady, first_break}
use Rattle.totem_evs.specs.declared.entry.Entry.{Entry}
use Rattle.totem_evs.specs.declared.ending.Ending.{Ending}
use Rattle.totem_evs.specs.declared.lines.Line.{Line}
use Rattle.totem_evs.specs.declared.lines.Line.TheVariants as lines
use Rattle.totem_evs.specs.Heads.{records_at, Words, proc_at, begin_at, end_at, head_at, by_head, header_end, header_at}
use Rattle.totem_evs.specs.RunGrammar.{is_failure, members_at, change_at, send_at, delivery_at, open_at, quiet_at, failed_at, fail_at, ail_at, failure_at, line_at, by_line, lines_at, log_at, run_words, run_at}

ruleset steady_steps = (gives_steady, fault_steady, cond_steady, bind_steady, byte_steady, word_steady)

members_steady : (version : Version) (room last : ℕ) → Steady (members_at version room last)
unfolding members_at
members_steady version zero last = fault_steady _
members_steady version (suc room) last = bind_steady _ _ (process_then_steady version) (λ p. cond_steady _ _ _ (fault_steady _) (cond_steady _ _ _ (gives_steady _) (cond_steady _ _ _ (bind_steady _ _ (members_steady version room (id_of p.0)) (λ others. gives_steady _)) (fault_steady _))))

line_steady : (version : Version) (full some failed : Bool) → Steady (line_at version full some failed)
unfolding line_at change_at send_at delivery_at failure_at ail_at failed_at fail_at open_at quiet_at
line_steady version full some failed =
    search (steady_steps, conf_steady, members_steady, service_steady, message_steady) depth 20

lines_steady : (version : Version) (room : ℕ) (some failed : Bool) → Steady (lines_at version room some failed)
unfolding lines_at
lines_steady version zero some failed = fault_steady _
lines_steady version (suc room) some failed = bind_steady _ _ (line_steady version (room == 0) some failed) (λ l. go l (λ e. lines_steady version room true (is_failure e)))
  where
    go : (l : Line) → ((e : Entry) → Steady (lines_at version room true (is_failure e))) → Steady (λ bytes. by_line {Y = Parsed (List Entry × Ending)} l (λ ending. Ok (([], ending), bytes)) (λ e. lines_at version room true (is_failure e) bytes >>= λ others. Ok ((e ∷ others.0.0, others.0.1), others.1)))
    go (lines.Close ending) again = gives_steady _
    go (lines.Entry e) again = bind_steady _ _ (again e) (λ others. gives_steady _)

log_steady : (version : Version) (p : ℕ) → Steady (log_at version p)
unfolding log_at
log_steady version p = bind_steady _ _ (lines_steady version 1000001 false false) (λ body. gives_steady _)

pub head_steady : (words : Words) (version : Version) (full : Bool) (last : ℕ) → Steady (head_at words version full last)
unfolding head_at begin_at proc_at end_at
head_steady words version full last = search (steady_steps, process_then_steady) depth 12

pub records_steady : {X R : Type 0} (words : Words) (rest_at : Version → ℕ → List ℕ → Parsed X) (made : ℕ → X → R) → ((version : Version) (p : ℕ) → Steady (rest_at version p)) → (version : Version) (room last : ℕ) → Steady (records_at words rest_at made version room last)
unfolding records_at
records_steady words rest_at made steady version zero last = fault_steady _
records_steady {X = X} {R = R} words rest_at made steady version (suc room) last = bind_steady _ _ (head_steady words version (room == 0) last) (λ head. go head (λ p. records_steady words rest_at made steady version room p))
  where
    go : (head : Option ℕ) → ((p : ℕ) → Steady (records_at words rest_at made version room p)) → Steady (λ bytes. by_head {Y = Parsed (List R)} head (Ok ([], bytes)) (λ p. rest_at version p bytes >>= λ x. records_at words rest_at made version room p x.1 >>= λ others. Ok (made p x.0 ∷ others.0, others.1)))
    go None again = gives_steady _
    go (Some p) again = bind_steady _ _ (steady version p) (λ x. bind_steady _ _ (again p) (λ others. gives_steady _))

pub header_steady : (words : Words) → Steady (header_at words)
unfolding header_at header_end
header_steady words = search steady_steps depth 12

pub run_steady : Steady run_at
unfolding run_at
run_steady = bind_steady _ _ (header_steady run_words) (λ v. bind_steady _ _ (records_steady run_words log_at (λ p log. log) log_steady v 33 0) (λ logs. gives_steady _))

pub run_first_break : (bytes : List ℕ) (f : TextFault) → is_short f ≡ false → run_at bytes ≡ Err f → FirstBreak run_at bytes f
unfolding run_at header_at word_at
run_first_break bytes f long e = first_break run_at bytes f run_steady refl long e
