-- What is read as a part is spelled as that part, and so are all parts that are read one after the other.
use Rattle.totem_evs.proofs.Common.{nat_lt, ◌==◌, codes, ◌≡◌, ℕ, List, [], ◌∷◌, ◌++◌, Bool, Option, Some, None, Ok, refl, sym, ap, ◌∙◌, append_assoc, Version, process_text, flat_map, after, parsed_is, line}
use Rattle.totem_evs.specs.declared.lines.Line.{Line}
use Rattle.totem_evs.specs.declared.lines.Line.TheVariants as lines
use Rattle.totem_evs.specs.declared.part.Part.{Part}
use Rattle.totem_evs.specs.declared.part.Part.TheVariants as parts
use Rattle.totem_evs.specs.declared.stage.OpenLog.{OpenLog}
use Rattle.totem_evs.specs.RunGrammar.{line_at, by_line, run_words}
use Rattle.totem_evs.specs.Heads.{head_at, by_head}
use Rattle.totem_evs.specs.Parts.{begun_at, within_at, next_at, next_stage, part_text}
use Rattle.totem_evs.specs.PartLaws.{PartIsSpelled, PartsAreSpelled}
use Rattle.totem_evs.proofs.SpelledLine.{line_text, line_is}
use Rattle.totem_evs.proofs.SpelledHeads.{head_text, head_is}
use Rattle.totem_evs.proofs.Folding.{as_part, line_part, version_kept}

-- the line of a part, or the last line
abbrev next_text : Version → Option Part → List ℕ
next_text version None = line (codes "end")
next_text version (Some part) = part_text (process_text version) part

begun_is : (version : Version) (logs last : ℕ) (part : Option Part) (bytes rest : List ℕ) → begun_at version logs last bytes ≡ Ok (part, rest) → bytes ≡ next_text version part ++ rest
unfolding begun_at
begun_is version logs last part bytes rest e =
    after (head_at run_words version (logs == 32) last bytes) as_part (part, rest) e (λ head mid e1 made.
    let q = parsed_is (by_head head None (λ p. Some (parts.Log p))) part mid rest made in
    let text : bytes ≡ next_text version (by_head head None (λ p. Some (parts.Log p))) ++ mid =
    (head_is run_words version (logs == 32) last head bytes mid e1).1 ∙ ap (λ (xs : List ℕ). xs ++ mid) (headed head) in
    rw (← q.0, ← q.1) text)
  where
    headed : (head : Option ℕ) → head_text run_words version head ≡ next_text version (by_head head None (λ p. Some (parts.Log p)))
    headed None = refl
    headed (Some p) = refl

within_is : (version : Version) (entries : ℕ) (failed : Bool) (part : Option Part) (bytes rest : List ℕ) → within_at version entries failed bytes ≡ Ok (part, rest) → bytes ≡ next_text version part ++ rest
unfolding within_at
within_is version entries failed part bytes rest e =
    after (line_at version (entries == 1000000) (nat_lt 0 entries) failed bytes) line_part (part, rest) e (λ l mid e1 made.
    let q = parsed_is (Some (by_line l parts.Close parts.Entry)) part mid rest made in
    let text : bytes ≡ next_text version (Some (by_line l parts.Close parts.Entry)) ++ mid =
    (line_is version (entries == 1000000) (nat_lt 0 entries) failed l bytes mid e1).1 ∙ ap (λ (xs : List ℕ). xs ++ mid) (lined l) in
    rw (← q.0, ← q.1) text)
  where
    lined : (l : Line) → line_text version l ≡ next_text version (Some (by_line l parts.Close parts.Entry))
    lined (lines.Entry e) = refl
    lined (lines.Close ending) = refl

next_is : (version : Version) (logs last : ℕ) (log : Option OpenLog) (part : Option Part) (bytes rest : List ℕ) → next_at version logs last log bytes ≡ Ok (part, rest) → bytes ≡ next_text version part ++ rest
next_is version logs last None part bytes rest e = begun_is version logs last part bytes rest e
next_is version logs last (Some log) part bytes rest e = within_is version log.entries log.failed part bytes rest e

-- a part that is read is spelled so
pub part_is : PartIsSpelled
part_is stage bytes part rest e = next_is stage.version stage.logs stage.last stage.log (Some part) bytes rest e

-- so are parts that are read one after the other
pub parts_are : PartsAreSpelled
parts_are stage bytes [] mid reads = reads
parts_are stage bytes (part ∷ more) mid reads =
    part_is stage bytes part reads.0 reads.1
    ∙ ap (λ (xs : List ℕ). part_text (process_text stage.version) part ++ xs) (parts_are (next_stage stage part) reads.0 more mid reads.2)
    ∙ ap (λ (v : Version). part_text (process_text stage.version) part ++ (flat_map (part_text (process_text v)) more ++ mid)) (version_kept stage part)
    ∙ sym (append_assoc (part_text (process_text stage.version) part) (flat_map (part_text (process_text stage.version)) more) mid)
