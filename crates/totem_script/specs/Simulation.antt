-- The run that a script makes, or what is wrong with it and where (docs/PROTOCOL.md, "Scripts").
use Rattle.std.specs.Prelude.{◌≡◌, ◌≢◌, ℕ, ◌+◌, List, [], ◌∷◌, Bool, true, false, if◌then◌else◌, Option, None, Some, Result, Ok, Err}
use Rattle.totem_evs.specs.RunRecord.{RunRecord}
use Rattle.totem_script.specs.declared.command.Command.{Command}
use Rattle.totem_script.specs.declared.command.Command.TheVariants as command
use Rattle.totem_script.specs.declared.script_fault.FaultyLine.{FaultyLine}
use Rattle.totem_script.specs.declared.script_fault.ScriptFault.TheVariants.{Header, End, Truncated, Memory}
use Rattle.totem_script.specs.declared.script_version.ScriptVersion.{ScriptVersion}
use Rattle.totem_script.specs.Commands.{command_of}
use Rattle.totem_script.specs.Lines.{lines_of}
use Rattle.totem_names.specs.Sources.{◌>>=◌}
use Rattle.totem_script.specs.Judged.{Judged, Fails, by_line}
use Rattle.totem_script.specs.Casts.{logs_in}
use Rattle.totem_script.specs.Scenes.{Scene, empty_scene, carried_out}
use Rattle.totem_script.specs.Versions.{version_in, run_of}

-- a script's lines: the text of each, or what is wrong with it
abbrev pub Texts : Type 0
Texts = List (Judged (List ℕ))

abbrev pub Told : Type 0 → Type 0
Told A = Result A FaultyLine

-- a fault of the line with this number
abbrev pub at_line : {A : Type 0} → ℕ → Judged A → Told A
at_line n (Ok x) = Ok x
at_line n (Err kind) = Err (record { kind = kind; line = n })

-- and then the following lines
abbrev pub and_then : {A B : Type 0} → Told A → (A → Told B) → Told B
and_then (Ok x) f = f x
and_then (Err fault) f = Err fault

abbrev pub is_end : Command → Bool
is_end (command.Ring ring members) = false
is_end (command.Submit p service payload) = false
is_end (command.Run times) = false
is_end (command.Drop place) = false
is_end (command.Repeat place) = false
is_end (command.Cut groups) = false
is_end command.Join = false
is_end (command.Timer p) = false
is_end (command.Crash p) = false
is_end (command.Return p) = false
is_end command.End = true

-- the scene after a line, and whether it is the last line
pub record LinePlayed : Type 0 where
  pub scene : Scene
  pub ended : Bool

-- the line is read, and then carried out
unfoldable pub line_played : Scene → Judged (List ℕ) → Judged LinePlayed
line_played s line = do
  text ← line
  c ← by_line (command_of s.version text)
  next ← carried_out s c
  Ok (record { scene = next; ended = is_end c })

-- no line follows the last one
unfoldable pub closing : ℕ → Scene → Texts → Told Scene
closing n s [] = Ok s
closing n s (line ∷ lines) = Err (record { kind = End; line = n })

-- the lines from number n on, one after the other up to `end`; if there is no `end`, that line is missing
unfoldable pub play : ℕ → Scene → Texts → Told Scene
play n s [] = Err (record { kind = Truncated; line = n })
play n s (line ∷ lines) =
    and_then (at_line n (line_played s line)) (λ next. if next.ended then closing (n + 1) next.scene lines else play (n + 1) next.scene lines)

abbrev pub begun : Option ScriptVersion → Judged ScriptVersion
begun None = Err Header
begun (Some version) = Ok version

-- the first line names the script's version
abbrev pub headed : Judged (List ℕ) → Judged ScriptVersion
headed line = do
  text ← line
  begun (version_in text)

unfoldable pub all_played : Texts → Told Scene
all_played [] = Err (record { kind = Truncated; line = 1 })
all_played (line ∷ lines) = and_then (at_line 1 (headed line)) (λ version. play 2 (empty_scene version) lines)

-- the run that a script makes, with a log for each life of each of its processes; or the fault of the first line that has one
unfoldable pub simulate : List ℕ → Told RunRecord
simulate script = and_then (all_played (lines_of 65536 script)) (λ scene. Ok (run_of scene.version (logs_in scene.actors)))

-- ---- Results

-- this fault is the written one, unless it is out of memory
pub record FailsAt {A : Type 0} (fault : FaultyLine) (written : Told A) : Type 0 where
  pub is : fault.kind ≢ Memory → written ≡ Err fault

-- the answer is the written one, unless it is out of memory
abbrev pub Gives : {A : Type 0} → Told A → Told A → Type 0
Gives (Ok x) written = written ≡ Ok x
Gives (Err fault) written = FailsAt fault written

-- the result without the number of the line
abbrev pub without_line : {A : Type 0} → Told A → Judged A
without_line (Ok x) = Ok x
without_line (Err fault) = Err fault.kind

-- the same for a call that changes a scene
abbrev pub Leads : {B : Type 0} → Told B → Scene → Told Scene → Type 0
Leads (Ok done) new written = written ≡ Ok new
Leads (Err fault) new written = FailsAt fault written

-- the result of a call that plays a line: whether it is the last
abbrev pub IsLinePlayed : Judged Bool → Scene → Judged LinePlayed → Type 0
IsLinePlayed (Ok ended) new written = written ≡ Ok (record { scene = new; ended = ended })
IsLinePlayed (Err fault) new written = Fails fault written

-- the scene after the first of these lines
abbrev pub first_line_played : Scene → Texts → Judged LinePlayed
first_line_played s [] = Err Truncated
first_line_played s (line ∷ lines) = line_played s line

-- the first of these lines as the script's first
abbrev pub first_headed : Texts → Judged ScriptVersion
first_headed [] = Err Truncated
first_headed (line ∷ lines) = headed line
