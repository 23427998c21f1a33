-- Laws of the parts of a run (docs/SPECIFICATIONS.md, "Run text").
use Rattle.totem_names.specs.declared.version.Version.{Version}
use Rattle.totem_evs.specs.RunRecord.{RunRecord}
use Rattle.std.specs.Prelude.{◌≡◌, List, ℕ, [], ◌∷◌, ◌++◌, Some, None, Ok, codes}
use Rattle.std.specs.List.{flat_map}
use Rattle.totem_names.specs.Processes.{process_text}
use Rattle.totem_evs.specs.declared.log.Log.{Log}
use Rattle.totem_evs.specs.declared.part.Part.{Part}
use Rattle.totem_evs.specs.declared.stage.Stage.{Stage}
use Rattle.totem_evs.specs.RunText.{line, header_text, run_text}
use Rattle.totem_evs.specs.Heads.{header_at}
use Rattle.totem_evs.specs.RunGrammar.{run_words, run_at}
use Rattle.totem_evs.specs.Parts.{part_at, first_stage, next_stage, part_text, run_parts}

-- from a stage on the bytes are read as these parts, one after the other, and the last line; the rest is left
abbrev pub ReadsParts : Stage → List ℕ → List Part → List ℕ → Type 0
ReadsParts stage bytes [] rest = part_at stage bytes ≡ Ok (None, rest)
ReadsParts stage bytes (part ∷ parts) rest = (mid : List ℕ) × (part_at stage bytes ≡ Ok (Some part, mid)) × ReadsParts (next_stage stage part) mid parts rest

-- what is read part by part is a run that is read as a whole, and the parts are those of the run
abbrev pub PartsMakeTheRun : Type 0
PartsMakeTheRun = (version : Version) (bytes mid rest : List ℕ) (parts : List Part) → header_at run_words bytes ≡ Ok (version, mid) → ReadsParts (first_stage version) mid parts rest
    → (logs : List Log) × (run_at bytes ≡ Ok (record { version = version; logs = logs }, rest)) × (run_parts logs ≡ parts)

-- a run's text is its first line, the lines of its parts, and its last line
abbrev pub TextIsOfParts : Type 0
TextIsOfParts = (run : RunRecord) → run_text run ≡ header_text run.version ++ flat_map (part_text (process_text run.version)) (run_parts run.logs) ++ line (codes "end")

-- what is read as a part is spelled as that part
abbrev pub PartIsSpelled : Type 0
PartIsSpelled = (stage : Stage) (bytes : List ℕ) (part : Part) (rest : List ℕ) → part_at stage bytes ≡ Ok (Some part, rest) → bytes ≡ part_text (process_text stage.version) part ++ rest

-- from a stage on the bytes are read as these parts, one after the other; the rest is left, and the last line is not read yet
abbrev pub ReadsSome : Stage → List ℕ → List Part → List ℕ → Type 0
ReadsSome stage bytes [] rest = bytes ≡ rest
ReadsSome stage bytes (part ∷ parts) rest = (mid : List ℕ) × (part_at stage bytes ≡ Ok (Some part, mid)) × ReadsSome (next_stage stage part) mid parts rest

-- what is read so far is spelled as the parts so far, wherever a reader begins and stops
abbrev pub PartsAreSpelled : Type 0
PartsAreSpelled = (stage : Stage) (bytes : List ℕ) (parts : List Part) (rest : List ℕ) → ReadsSome stage bytes parts rest → bytes ≡ flat_map (part_text (process_text stage.version)) parts ++ rest
