-- A run from its parts: the logs so far, and what is still read.
use Rattle.totem_evs.proofs.Common.{nat_lt, ◌==◌, ◌≡◌, ◌+◌, ◌-◌, ◌≤◌, ℕ, List, [], ◌∷◌, ◌++◌, true, Option, Some, None, Ok, Err, refl, ap, ◌∙◌, arith, rules, RunRecord, Version, Parsed, ◌>>=◌, GatheredLogs, none_gathered, gathered}
use Rattle.totem_evs.specs.declared.log.Log.{Log}
use Rattle.totem_evs.specs.declared.lines.Line.{Line}
use Rattle.totem_evs.specs.declared.lines.Line.TheVariants as lines
use Rattle.totem_evs.specs.declared.part.Part.{Part}
use Rattle.totem_evs.specs.declared.part.Part.TheVariants as parts
use Rattle.totem_evs.specs.declared.stage.Stage.{Stage}
use Rattle.totem_evs.specs.declared.stage.OpenLog.{OpenLog}
use Rattle.totem_evs.specs.RunGrammar.{is_failure, line_at, by_line, log_at, run_words, run_at}
use Rattle.totem_evs.specs.Heads.{head_at, by_head, header_at}
use Rattle.totem_evs.specs.Parts.{begun_at, within_at, next_at, part_at, first_stage, next_stage}
use Rattle.totem_evs.proofs.RunLoops.{with_logs, with_entries, logs_step, entries_step, log_first, as_run, run_first, full_is}

-- what is still read, depending on whether a log has not ended
abbrev pub rest_in : Version → ℕ → ℕ → Option OpenLog → GatheredLogs → List ℕ → Parsed (List Log)
rest_in version logs last None g bytes = with_logs version g.logs (33 - logs) last bytes
rest_in version logs last (Some log) g bytes = with_entries version last g.entries (1000001 - log.entries) (nat_lt 0 log.entries) log.failed bytes >>= λ l. with_logs version (g.logs ++ l.0 ∷ []) (33 - logs) last l.1

-- the logs that are still read, after the given ones
abbrev logs_left : Stage → GatheredLogs → List ℕ → Parsed (List Log)
logs_left stage g bytes = rest_in stage.version stage.logs stage.last stage.log g bytes

-- the same after this part, or after the last line
abbrev logs_behind : Stage → GatheredLogs → Option Part → List ℕ → Parsed (List Log)
logs_behind stage g None rest = Ok (g.logs, rest)
logs_behind stage g (Some part) rest = logs_left (next_stage stage part) (gathered g part) rest

-- what is still read after these logs
abbrev pub rest_at : Stage → GatheredLogs → List ℕ → Parsed RunRecord
rest_at stage g bytes = logs_left stage g bytes >>= as_run stage.version

-- what is still read after this part, or after the last line
abbrev pub behind : Stage → GatheredLogs → Option Part → List ℕ → Parsed RunRecord
behind stage g None rest = Ok (record { version = stage.version; logs = g.logs }, rest)
behind stage g (Some part) rest = rest_at (next_stage stage part) (gathered g part) rest

-- the process of the log that has not ended
abbrev pub OfLast : Option OpenLog → ℕ → Option ℕ → Type 0
OfLast None last proc = Unit {0}
OfLast (Some log) last proc = proc ≡ Some last

-- a log begins, or the last line follows
abbrev pub as_part : Option ℕ × List ℕ → Parsed (Option Part)
as_part head = Ok (by_head head.0 None (λ p. Some (parts.Log p)), head.1)

-- an entry follows, or a log ends
abbrev pub line_part : Line × List ℕ → Parsed (Option Part)
line_part l = Ok (Some (by_line l.0 parts.Close parts.Entry), l.1)

-- between logs
step_between : (version : Version) (logs last : ℕ) (g : GatheredLogs) → logs ≤ 32 → (bytes : List ℕ) → with_logs version g.logs (33 - logs) last bytes ≡ (begun_at version logs last bytes >>= λ x. logs_behind (record { version = version; logs = logs; last = last; log = None }) g x.0 x.1)
unfolding begun_at
step_between version logs last g le bytes =
    logs_step version g.logs (33 - logs) (33 - (logs + 1)) last (logs == 32) (omega arith) (full_is 32 logs (33 - (logs + 1)) (omega arith)) bytes ∙ go (head_at run_words version (logs == 32) last bytes)
  where
    headed : (head : Option ℕ) (rest : List ℕ) →
        by_head {Y = Parsed (List Log)} head (Ok (g.logs, rest)) (λ p. log_at version p rest >>= λ log. with_logs version (g.logs ++ log.0 ∷ []) (33 - (logs + 1)) p log.1)
        ≡ logs_behind (record { version = version; logs = logs; last = last; log = None }) g (by_head head None (λ p. Some (parts.Log p))) rest
    headed None rest = refl
    headed (Some p) rest = ap (λ (r : Parsed Log). r >>= λ log. with_logs version (g.logs ++ log.0 ∷ []) (33 - (logs + 1)) p log.1) (log_first version p rest)

    go : (r : Parsed (Option ℕ)) →
        (r >>= λ head. by_head head.0 (Ok (g.logs, head.1)) (λ p. log_at version p head.1 >>= λ log. with_logs version (g.logs ++ log.0 ∷ []) (33 - (logs + 1)) p log.1))
        ≡ ((r >>= as_part) >>= λ x. logs_behind (record { version = version; logs = logs; last = last; log = None }) g x.0 x.1)
    go (Ok head) = headed head.0 head.1
    go (Err f) = refl

-- the logs after the one that has not ended
abbrev finish : Version → ℕ → ℕ → GatheredLogs → Log × List ℕ → Parsed (List Log)
finish version logs last g l = with_logs version (g.logs ++ l.0 ∷ []) (33 - logs) last l.1

-- in a log
step_within : (version : Version) (logs last : ℕ) (log : OpenLog) (g : GatheredLogs) → log.entries ≤ 1000000 → g.proc ≡ Some last → (bytes : List ℕ)
    → (with_entries version last g.entries (1000001 - log.entries) (nat_lt 0 log.entries) log.failed bytes >>= λ l. with_logs version (g.logs ++ l.0 ∷ []) (33 - logs) last l.1)
    ≡ (within_at version log.entries log.failed bytes >>= λ x. logs_behind (record { version = version; logs = logs; last = last; log = Some log }) g x.0 x.1)
unfolding within_at
step_within version logs last log g le proc bytes =
    ap (λ (r : Parsed Log). r >>= finish version logs last g) (entries_step version last g.entries (1000001 - log.entries) (1000001 - (log.entries + 1)) (log.entries == 1000000) (nat_lt 0 log.entries) log.failed (omega arith) (full_is 1000000 log.entries (1000001 - (log.entries + 1)) (omega arith)) bytes)
    ∙ go (line_at version (log.entries == 1000000) (nat_lt 0 log.entries) log.failed bytes)
  where
    lined : (l : Line) (rest : List ℕ) →
        (by_line {Y = Parsed Log} l (λ ending. Ok (record { proc = last; entries = g.entries; ending = ending }, rest)) (λ e. with_entries version last (g.entries ++ e ∷ []) (1000001 - (log.entries + 1)) true (is_failure e) rest) >>= finish version logs last g)
        ≡ logs_behind (record { version = version; logs = logs; last = last; log = Some log }) g (Some (by_line l parts.Close parts.Entry)) rest
    lined (lines.Close ending) rest = rw proc refl
    lined (lines.Entry e) rest = let more : nat_lt 0 (log.entries + 1) ≡ true = search rules in rw more refl

    go : (r : Parsed Line) →
        ((r >>= λ l. by_line l.0 (λ ending. Ok (record { proc = last; entries = g.entries; ending = ending }, l.1)) (λ e. with_entries version last (g.entries ++ e ∷ []) (1000001 - (log.entries + 1)) true (is_failure e) l.1)) >>= finish version logs last g)
        ≡ ((r >>= line_part) >>= λ x. logs_behind (record { version = version; logs = logs; last = last; log = Some log }) g x.0 x.1)
    go (Ok l) = lined l.0 l.1
    go (Err f) = refl

-- the limits that the stage keeps
abbrev pub FewEntries : Option OpenLog → Type 0
FewEntries None = Unit {0}
FewEntries (Some log) = log.entries ≤ 1000000

step_in : (version : Version) (logs last : ℕ) (log : Option OpenLog) (g : GatheredLogs) → logs ≤ 32 → FewEntries log → OfLast log last g.proc → (bytes : List ℕ) → rest_in version logs last log g bytes ≡ (next_at version logs last log bytes >>= λ x. logs_behind (record { version = version; logs = logs; last = last; log = log }) g x.0 x.1)
step_in version logs last None g few entries proc bytes = step_between version logs last g few bytes
step_in version logs last (Some log) g few entries proc bytes = step_within version logs last log g entries proc bytes

-- the next part, and what is still read after it
pub step : (stage : Stage) (g : GatheredLogs) → stage.logs ≤ 32 → FewEntries stage.log → OfLast stage.log stage.last g.proc → (bytes : List ℕ) → rest_at stage g bytes ≡ (part_at stage bytes >>= λ x. behind stage g x.0 x.1)
step stage g few entries proc bytes = grind (arith, as_run, step_in)

-- the version of the text stays
pub version_kept : (stage : Stage) (part : Part) → (next_stage stage part).version ≡ stage.version
version_kept stage part = grind arith

-- the first line, and what is still read after it
pub first_step : (bytes : List ℕ) → run_at bytes ≡ (header_at run_words bytes >>= λ v. rest_at (first_stage v.0) none_gathered v.1)
first_step bytes = run_first bytes
