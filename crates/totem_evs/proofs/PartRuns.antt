-- A run and its parts.
use Rattle.totem_evs.proofs.Common.{nat_lt, ◌==◌, codes, ◌≡◌, ◌≤◌, ℕ, List, [], ◌∷◌, ◌++◌, Bool, Option, Some, None, Ok, refl, sym, ap, subst, ◌∙◌, append_assoc, arith, Version, process_text, flat_map, append-nil, Parsed, ◌>>=◌, after, parsed_is, line, entry_text, ending_text, log_text, header_text, writes_quiet, ComesBetween, ComesWithin, ComesIn, MayCome, GatheredLogs, none_gathered, gathered}
use Rattle.std.proofs.lemmas.Grind.{flat_map-append}
use Rattle.totem_evs.specs.declared.ending.Ending.TheVariants.{Standing, Failed, Quiet}
use Rattle.totem_evs.specs.declared.entry.Entry.{Entry}
use Rattle.totem_evs.specs.declared.lines.Line.{Line}
use Rattle.totem_evs.specs.declared.lines.Line.TheVariants as lines
use Rattle.totem_evs.specs.declared.log.Log.{Log}
use Rattle.totem_evs.specs.declared.part.Part.{Part}
use Rattle.totem_evs.specs.declared.part.Part.TheVariants as parts
use Rattle.totem_evs.specs.declared.stage.Stage.{Stage}
use Rattle.totem_evs.specs.declared.stage.OpenLog.{OpenLog}
use Rattle.totem_evs.specs.RunGrammar.{line_at, by_line, run_words}
use Rattle.totem_evs.specs.Heads.{head_at, by_head}
use Rattle.totem_evs.specs.Parts.{begun_at, within_at, next_at, part_at, first_stage, next_stage, part_text, entry_parts, log_parts, run_parts}
use Rattle.totem_evs.specs.PartLaws.{ReadsParts, PartsMakeTheRun, TextIsOfParts}
use Rattle.totem_evs.proofs.SpelledLine.{IsLine, line_is}
use Rattle.totem_evs.proofs.SpelledHeads.{IsHead, head_is}
use Rattle.totem_evs.proofs.Folding.{as_part, line_part, rest_at, behind, OfLast, FewEntries, step, version_kept, first_step}
use Rattle.totem_evs.proofs.Gathers.{below_limit}

-- ---- what is read may follow

between_comes : (version : Version) (logs last : ℕ) (part : Option Part) (bytes rest : List ℕ) → begun_at version logs last bytes ≡ Ok (part, rest) → ComesBetween logs last part
unfolding begun_at
between_comes version logs last part bytes rest e =
    after (head_at run_words version (logs == 32) last bytes) as_part (part, rest) e (λ head mid e1 made.
    go head (head_is run_words version (logs == 32) last head bytes mid e1).0 (parsed_is (by_head head None (λ p. Some (parts.Log p))) part mid rest made).0)
  where
    go : (head : Option ℕ) → IsHead version (logs == 32) last head → by_head {Y = Option Part} head None (λ p. Some (parts.Log p)) ≡ part → ComesBetween logs last part
    go None is same = subst (ComesBetween logs last) same tt
    go (Some p) is same = subst (ComesBetween logs last) same (is.0, is.1)

within_comes : (version : Version) (entries : ℕ) (failed : Bool) (part : Option Part) (bytes rest : List ℕ) → within_at version entries failed bytes ≡ Ok (part, rest) → ComesWithin (writes_quiet version) entries failed part
unfolding within_at
within_comes version entries failed part bytes rest e =
    after (line_at version (entries == 1000000) (nat_lt 0 entries) failed bytes) line_part (part, rest) e (λ l mid e1 made.
    go l (line_is version (entries == 1000000) (nat_lt 0 entries) failed l bytes mid e1).0 (parsed_is (Some (by_line l parts.Close parts.Entry)) part mid rest made).0)
  where
    go : (l : Line) → IsLine version (entries == 1000000) (nat_lt 0 entries) failed l → ◌≡◌ {A = Option Part} (Some (by_line l parts.Close parts.Entry)) part → ComesWithin (writes_quiet version) entries failed part
    go (lines.Entry x) is same = subst (ComesWithin (writes_quiet version) entries failed) same is.0
    go (lines.Close Standing) is same = subst (ComesWithin (writes_quiet version) entries failed) same is
    go (lines.Close Failed) is same = subst (ComesWithin (writes_quiet version) entries failed) same is
    go (lines.Close Quiet) is same = subst (ComesWithin (writes_quiet version) entries failed) same is

comes_in : (version : Version) (logs last : ℕ) (log : Option OpenLog) (part : Option Part) (bytes rest : List ℕ) → next_at version logs last log bytes ≡ Ok (part, rest) → ComesIn version logs last log part
comes_in version logs last log part bytes rest e = grind (arith, between_comes, within_comes)

pub comes : (stage : Stage) (part : Option Part) (bytes rest : List ℕ) → part_at stage bytes ≡ Ok (part, rest) → MayCome stage part
comes stage part bytes rest e = comes_in stage.version stage.logs stage.last stage.log part bytes rest e

-- ---- the logs that parts give

-- the log that has not ended is that of the last process
abbrev pub Placed : Option OpenLog → ℕ → GatheredLogs → Type 0
Placed None last g = g.proc ≡ None
Placed (Some log) last g = g.proc ≡ Some last

-- the logs belong to this stage
pub record Stands (stage : Stage) (g : GatheredLogs) : Type 0 where
  pub few : stage.logs ≤ 32
  pub entries : FewEntries stage.log
  pub placed : Placed stage.log stage.last g

stands_in : (version : Version) (logs last : ℕ) (log : Option OpenLog) (g : GatheredLogs) (part : Part) → logs ≤ 32 → FewEntries log → Placed log last g → ComesIn version logs last log (Some part) → Stands (next_stage (record { version = version; logs = logs; last = last; log = log }) part) (gathered g part)
stands_in version logs last log g part h k m o = grind (arith, below_limit)

pub stands_next : (stage : Stage) (g : GatheredLogs) (part : Part) → Stands stage g → MayCome stage (Some part) → Stands (next_stage stage part) (gathered g part)
stands_next stage g part h may = stands_in stage.version stage.logs stage.last stage.log g part h.few h.entries h.placed may

pub of_placed : (log : Option OpenLog) (last : ℕ) (g : GatheredLogs) → Placed log last g → OfLast log last g.proc
of_placed log last g h = grind arith

abbrev logs_from : GatheredLogs → List Part → List Log
logs_from g [] = g.logs
logs_from g (part ∷ more) = logs_from (gathered g part) more

rest_read : (ps : List Part) (stage : Stage) (g : GatheredLogs) (bytes rest : List ℕ) → Stands stage g → ReadsParts stage bytes ps rest → rest_at stage g bytes ≡ Ok (record { version = stage.version; logs = logs_from g ps }, rest)
rest_read [] stage g bytes rest h reads =
    step stage g h.few h.entries (of_placed stage.log stage.last g h.placed) bytes
    ∙ ap (λ (r : Parsed (Option Part)). r >>= λ x. behind stage g x.0 x.1) reads
rest_read (part ∷ ps) stage g bytes rest h reads =
    step stage g h.few h.entries (of_placed stage.log stage.last g h.placed) bytes
    ∙ ap (λ (r : Parsed (Option Part)). r >>= λ x. behind stage g x.0 x.1) reads.1
    ∙ rest_read ps (next_stage stage part) (gathered g part) reads.0 rest (stands_next stage g part h (comes stage (Some part) bytes reads.0 reads.1)) reads.2
    ∙ ap (λ (v : Version). Ok (record { version = v; logs = logs_from (gathered g part) ps }, rest)) (version_kept stage part)

-- ---- the parts of the logs

abbrev opened_parts : Option ℕ → List Entry → List Part
opened_parts None entries = []
opened_parts (Some p) entries = parts.Log p ∷ entry_parts entries

-- the parts so far
abbrev given : GatheredLogs → List Part
given g = run_parts g.logs ++ opened_parts g.proc g.entries

given_in : (version : Version) (logs last : ℕ) (log : Option OpenLog) (g : GatheredLogs) (part : Part) → Placed log last g → ComesIn version logs last log (Some part) → given (gathered g part) ≡ given g ++ part ∷ []
given_in version logs last log g part h k = grind (arith, append-nil, flat_map-append, append_assoc)

ended_in : (version : Version) (logs last : ℕ) (log : Option OpenLog) (g : GatheredLogs) → Placed log last g → ComesIn version logs last log None → run_parts g.logs ≡ given g ++ []
ended_in version logs last log g placed may = grind (arith, append-nil)

parts_are : (ps : List Part) (stage : Stage) (g : GatheredLogs) (bytes rest : List ℕ) → Stands stage g → ReadsParts stage bytes ps rest → run_parts (logs_from g ps) ≡ given g ++ ps
parts_are [] stage g bytes rest h reads = ended_in stage.version stage.logs stage.last stage.log g h.placed (comes stage None bytes rest reads)
parts_are (part ∷ ps) stage g bytes rest h reads =
    let may = comes stage (Some part) bytes reads.0 reads.1 in
    parts_are ps (next_stage stage part) (gathered g part) reads.0 rest (stands_next stage g part h may) reads.2
    ∙ ap (λ (xs : List Part). xs ++ ps) (given_in stage.version stage.logs stage.last stage.log g part h.placed may)
    ∙ append_assoc (given g) (part ∷ []) ps

pub stands_first : (version : Version) → Stands (first_stage version) none_gathered
stands_first version = record { few = omega arith; entries = tt; placed = refl }

-- parts make the run
pub parts_make : PartsMakeTheRun
parts_make version bytes mid rest ps header reads = (
  logs_from none_gathered ps,
  first_step bytes ∙ ap (λ (r : Parsed Version). r >>= λ v. rest_at (first_stage v.0) none_gathered v.1) header ∙ rest_read ps (first_stage version) none_gathered mid rest (stands_first version) reads,
  parts_are ps (first_stage version) none_gathered mid rest (stands_first version) reads,
)

-- ---- the text of parts

module _ (spell : ℕ → List ℕ) where
  entries_parts : (entries : List Entry) → flat_map (part_text spell) (entry_parts entries) ≡ flat_map (λ entry. line (entry_text spell entry)) entries
  entries_parts [] = refl
  entries_parts (e ∷ entries) = ap (λ (xs : List ℕ). line (entry_text spell e) ++ xs) (entries_parts entries)

  log_is_parts : (log : Log) → flat_map (part_text spell) (log_parts log) ≡ log_text spell log
  log_is_parts log =
      flat_map-append (part_text spell) ((parts.Log log.proc ∷ []) ++ entry_parts log.entries) (parts.Close log.ending ∷ [])
      ∙ ap (λ (xs : List ℕ). (part_text spell (parts.Log log.proc) ++ xs) ++ (line (ending_text log.ending) ++ [])) (entries_parts log.entries)
      ∙ ap (λ (xs : List ℕ). (part_text spell (parts.Log log.proc) ++ flat_map (λ entry. line (entry_text spell entry)) log.entries) ++ xs) (append-nil (line (ending_text log.ending)))

  logs_are_parts : (run : List Log) → flat_map (log_text spell) run ≡ flat_map (part_text spell) (run_parts run)
  logs_are_parts [] = refl
  logs_are_parts (log ∷ run) =
      ap (λ (xs : List ℕ). log_text spell log ++ xs) (logs_are_parts run)
      ∙ ap (λ (xs : List ℕ). xs ++ flat_map (part_text spell) (run_parts run)) (sym (log_is_parts log))
      ∙ sym (flat_map-append (part_text spell) (log_parts log) (run_parts run))

-- a run's text is that of its parts
pub text_of_parts : TextIsOfParts
text_of_parts run = ap (λ (xs : List ℕ). header_text run.version ++ xs ++ line (codes "end")) (logs_are_parts (process_text run.version) run.logs)
