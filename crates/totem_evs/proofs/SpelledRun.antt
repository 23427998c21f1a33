-- What is read is spelled so, and what is spelled so is read: a run.
use Rattle.totem_evs.proofs.Common.{◌==◌, codes, ◌≡◌, ℕ, zero, suc, ◌<◌, List, [], ◌∷◌, ◌++◌, Option, Some, None, Ok, Err, false, refl, sym, ◌∙◌, ap, subst, append_assoc, arith, RunRecord, Version, process_text, flat_map, nat_tests, TextFault, Parsed, ◌>>=◌, after, parsed_is, IsLogIn, IsRunOf, line, ending_text, log_text, header_text, run_text}
use Rattle.totem_evs.specs.declared.log.Log.{Log}
use Rattle.totem_evs.specs.Heads.{records_at, HasVersion, head_at, by_head, header_at}
use Rattle.totem_evs.specs.RunGrammar.{run_words, log_at, logs_at, run_at}
use Rattle.totem_evs.proofs.FromLeft.{LogsFrom, is_run, run_from}
use Rattle.totem_evs.proofs.SpelledHeads.{IsClear, head_text, IsHead, head_is, head_again, header_is, header_again}
use Rattle.totem_evs.proofs.SpelledLog.{entries_text, body_text, log_is, log_again}

-- ---- logs

pub run_clear : IsClear run_words
run_clear = record { letter = refl; behind = refl }

abbrev pub logs_text : Version → List Log → List ℕ → List ℕ
logs_text version logs rest = flat_map (log_text (process_text version)) logs ++ (line (codes "end") ++ rest)

pub log_parts : (version : Version) (log : Log) (rest : List ℕ) → log_text (process_text version) log ++ rest ≡ head_text run_words version (Some log.proc) ++ body_text version log.entries log.ending rest
log_parts version log rest = append_assoc (head_text run_words version (Some log.proc) ++ entries_text version log.entries) (line (ending_text log.ending)) rest ∙ append_assoc (head_text run_words version (Some log.proc)) (entries_text version log.entries) (line (ending_text log.ending) ++ rest)

pub logs_parts : (version : Version) (log : Log) (logs : List Log) (rest : List ℕ) → logs_text version (log ∷ logs) rest ≡ head_text run_words version (Some log.proc) ++ body_text version log.entries log.ending (logs_text version logs rest)
logs_parts version log logs rest = append_assoc (log_text (process_text version) log) (flat_map (log_text (process_text version)) logs) (line (codes "end") ++ rest) ∙ log_parts version log (logs_text version logs rest)

pub logs_is : (version : Version) (room last : ℕ) (logs : List Log) (bytes rest : List ℕ) → logs_at version room last bytes ≡ Ok (logs, rest) → LogsFrom (IsLogIn version) room last logs × (bytes ≡ logs_text version logs rest)
unfolding records_at
logs_is version zero last logs bytes rest e = absurd cc
logs_is version (suc room) last logs bytes rest e =
    after (head_at run_words version (room == 0) last bytes) (λ head. by_head head.0 (Ok ([], head.1)) (λ p. log_at version p head.1 >>= λ log. logs_at version room p log.1 >>= λ others. Ok (log.0 ∷ others.0, others.1))) (logs, rest) e (λ head mid e1 more.
    go head mid e1 more (λ p logs' bytes' left k. logs_is version room p logs' bytes' left k))
  where
    go : (head : Option ℕ) (mid : List ℕ) → head_at run_words version (room == 0) last bytes ≡ Ok (head, mid)
        → by_head {Y = Parsed (List Log)} head (Ok ([], mid)) (λ p. log_at version p mid >>= λ log. logs_at version room p log.1 >>= λ others. Ok (log.0 ∷ others.0, others.1)) ≡ Ok (logs, rest)
        → ((p : ℕ) (logs' : List Log) (bytes' left : List ℕ) → logs_at version room p bytes' ≡ Ok (logs', left) → LogsFrom (IsLogIn version) room p logs' × (bytes' ≡ logs_text version logs' left))
        → LogsFrom (IsLogIn version) (suc room) last logs × (bytes ≡ logs_text version logs rest)
    go None mid e1 more again =
        let found = head_is run_words version (room == 0) last None bytes mid e1 in
        let q = parsed_is [] logs mid rest more in
        let whole : LogsFrom (IsLogIn version) (suc room) last [] × (bytes ≡ logs_text version [] mid) = (record { few = omega arith; rises = tt }, found.1) in
        rw (← q.0, ← q.1) whole
    go (Some p) mid e1 more again =
        let found = head_is run_words version (room == 0) last (Some p) bytes mid e1 in
        after (log_at version p mid) (λ log. logs_at version room p log.1 >>= λ others. Ok (log.0 ∷ others.0, others.1)) (logs, rest) more (λ log b2 e2 m2.
        after (logs_at version room p b2) (λ others. Ok (log ∷ others.0, others.1)) (logs, rest) m2 (λ others left e3 made.
        let q = parsed_is (log ∷ others) logs left rest made in
        let one = log_is version p log mid b2 found.0.2 e2 in
        let tail = again p others b2 left e3 in
        let is : LogsFrom (IsLogIn version) (suc room) last (log ∷ others) = record {
          few = omega (arith, tail.0.few);
          rises = (rw one.1 found.0.1, one.0, rw one.1 tail.0.rises);
        } in
        let text : bytes ≡ logs_text version (log ∷ others) left =
        found.1 ∙ ap (λ (t : List ℕ). head_text run_words version (Some p) ++ t) (one.2 ∙ ap (λ (t : List ℕ). body_text version log.entries log.ending t) tail.1)
        ∙ ap (λ (k : ℕ). head_text run_words version (Some k) ++ body_text version log.entries log.ending (logs_text version others left)) (sym one.1) ∙ sym (logs_parts version log others left) in
        rw (← q.0, ← q.1) (is, text)))

pub logs_again : (version : Version) (room last : ℕ) (logs : List Log) (rest : List ℕ) → LogsFrom (IsLogIn version) room last logs → logs_at version room last (logs_text version logs rest) ≡ Ok (logs, rest)
unfolding records_at
logs_again version zero last logs rest is = absurd (omega (arith, is.few))
logs_again version (suc room) last [] rest is = rw (head_again run_words version (room == 0) last None rest run_clear tt) refl
logs_again version (suc room) last (log ∷ logs) rest is =
    let more : (room == 0) ≡ false = (let k : 0 < room = omega (arith, is.few) in grind (arith, nat_tests)) in
    let head : IsHead version (room == 0) last (Some log.proc) = (more, is.rises.0, is.rises.1.process) in
    let others : LogsFrom (IsLogIn version) room log.proc logs = record { few = omega (arith, is.few); rises = is.rises.2 } in
    rw (logs_parts version log logs rest, head_again run_words version (room == 0) last (Some log.proc) (body_text version log.entries log.ending (logs_text version logs rest)) run_clear head, log_again version log (logs_text version logs rest) is.rises.1, logs_again version room log.proc logs rest others) refl

-- ---- runs

pub run_parts : (run : RunRecord) (rest : List ℕ) → run_text run ++ rest ≡ header_text run.version ++ logs_text run.version run.logs rest
run_parts run rest = grind (arith, append_assoc)

-- what is read is spelled so
pub run_is : (run : RunRecord) (bytes rest : List ℕ) → run_at bytes ≡ Ok (run, rest) → IsRunOf run × (bytes ≡ run_text run ++ rest)
unfolding run_at
run_is run bytes rest e =
    after (header_at run_words bytes) (λ v. logs_at v.0 33 0 v.1 >>= λ logs. Ok (record { version = v.0; logs = logs.0 }, logs.1)) (run, rest) e (λ v mid e1 more.
    after (logs_at v 33 0 mid) (λ logs. Ok (record { version = v; logs = logs.0 }, logs.1)) (run, rest) more (λ logs left e2 made.
    let new : RunRecord = record { version = v; logs = logs } in
    let q = parsed_is new run left rest made in
    let t1 = header_is run_words v bytes mid e1 in
    let found = logs_is v 33 0 logs mid left e2 in
    let whole : IsRunOf new × (bytes ≡ run_text new ++ left) =
    (is_run v logs found.0, t1.1 ∙ ap (λ (t : List ℕ). header_text v ++ t) found.1 ∙ sym (run_parts new left)) in
    subst (λ (r : RunRecord). IsRunOf r × (bytes ≡ run_text r ++ rest)) q.0 (rw (← q.1) whole)))

-- there are runs of each version
each_version : (version : Version) → HasVersion run_words version
each_version version = grind arith

-- what is spelled so is read
pub run_again : (run : RunRecord) (rest : List ℕ) → IsRunOf run → run_at (run_text run ++ rest) ≡ Ok (run, rest)
unfolding run_at
run_again run rest is =
    rw (run_parts run rest) (rw (header_again run_words run.version (logs_text run.version run.logs rest) (each_version run.version)) (rw (logs_again run.version 33 0 run.logs rest (run_from run.version run.logs is)) refl))

-- ---- runs and bytes

-- two runs whose texts begin the same bytes are one
pub one_run : (a b : RunRecord) (more rest : List ℕ) → IsRunOf a → IsRunOf b → run_text a ++ more ≡ run_text b ++ rest → (a ≡ b) × (more ≡ rest)
one_run a b more rest is-a is-b e = parsed_is a b more rest (sym (run_again a more is-a) ∙ ap run_at e ∙ run_again b rest is-b)

-- where there is a fault no run begins
pub no_run : (bytes : List ℕ) (fault : TextFault) → run_at bytes ≡ Err fault → (run : RunRecord) (rest : List ℕ) → IsRunOf run → bytes ≡ run_text run ++ rest → ⊥
no_run bytes fault e run rest is text = absurd (let ok = sym (run_again run rest is) ∙ ap run_at (sym text) ∙ e in cc)
